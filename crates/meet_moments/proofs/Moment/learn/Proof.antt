-- `learn` takes the later one.
use Rattle.std.proofs.Common.{◌≡◌, ℕ, max, List, [], ◌∷◌, refl}
use mir.Syntax.{named}
use mir.Val.{Val, vunit, vptr}
use base.Logic.{SProp, emp}
use base.Fml.{Fml, ftrue, fsep, flft, fhide}
use types.Kit.{‵, raw, ◌⊛◌, some, given, ◌$◌, ◌∵◌, !, qed, by, move, keep, drop, split, join, fsplit, fsplit3, fjoin, fjoin3, pick, learn, use0, use1, use2, rewrite, feq_i}
use types.Run.{of_opd, unit_lit, returns, enter}
use types.ByLocal.{alloc_all, pass_all, free_all, look_at, sets}
use contract.Monad.{fact, fact_i}
use contract.Running.{tables}
use denote.Builtin.{unit, RefOf}
use denote.Exit.{yes}
use denote.Memory.{hidden_shr}
use denote.Opens.{unhide}
use denote.RattleType.{RattleType, owns}
use denote.Ref.{mut_vals, mut_Tells, shr_vals, shr_Tells}
use denote.Signature.{types_at, plain}
use denote.Steps.{nothing, opens, closes}
use denote.Struct.Lending.{lent_out}
use denote.Triple.Walked.{Stays, stay_dropped, stay_ref, walk_of, Goes-dropped, Goes-ref}
use Rattle.std.proofs.raw_atomic.Walks.{proved, leaves}
use Rattle.std.specs.contracts.marker.PhantomData as marker
use Rattle.meet_moments.specs.Kept.{moment_owns}
use Rattle.meet_moments.specs.contracts.Moment as Moment
use Rattle.meet_moments.proofs.Steps as steps
use Rattle.meet_moments.proofs.Tokens.{Token}
use Rattle.meet_moments.specs.contracts.Moment.learn.{ended, clauses}
use Rattle.meet_moments.specs.contracts.Moment.learn.Key.{name as #self}
use Rattle.meet_moments.proofs.Moment.learn.Statement.{statement}
use Rattle.meet_moments.proofs.Moment.learn.Code as code

pub learn_spec : {M : Type 1} → statement M
learn_spec 𝓤 𝓛 𝓜 𝓡 wired =
    let H = 𝓛.H in let 𝓣 = tables 𝓤 H 𝓜 𝓡 𝓡.env in let fn = code.function in let c = clauses 𝓛 𝓜.mem 𝓡.returns in let Ms : RattleType = Moment.the_row in
    let hs : Stays ended.signature.params ended.kept = (stay_ref (0 ∷ []) tt (plain (λ _. Ms)), (stay_dropped (RefOf (1 ∷ []) tt (plain (λ _. Ms)) (λ _. tt)) yes, tt)) in
    proved 𝓛 ended hs c 𝓜 𝓡 (Goes-ref 𝓛 2 0 tt (plain (λ _. Ms)), (Goes-dropped 𝓛 2 (RefOf (1 ∷ []) tt (plain (λ _. Ms)) (λ _. tt)) yes (λ κs x f. refl), tt)) #self fn (code.unfolded 𝓤 H 𝓜 𝓡 wired)
    (λ κs. (mut_vals, (shr_vals, tt))) (λ κs. (mut_Tells (named 0) κs.0 Ms, (shr_Tells (named 1) κs.1.0 Ms, tt))) (λ κs qs bounds a gh are.
    let b : ℕ = a.0.ref_ptr.0 in let o : ℕ = a.0.ref_ptr.1 in let d : ℕ = a.1.0.ref_ptr.0 in let p : ℕ = a.1.0.ref_ptr.1 in let m : Ms.Denot = a.0.now in let n : Ms.Denot = a.1.0.now in
    let A₁ : Type 0 = m.name ≡ m.name in
    let y : (walk_of 𝓛 ended hs c).Ghost = ((κs, qs, bounds, a, (vptr b o ∷ [], (vptr d p ∷ [], tt))), gh) in let Post : Val → SProp 𝓤 = (walk_of 𝓛 ended hs c).post y in let toks : Fml = fsep (flft κs.0 qs.0) (fsep (flft κs.1.0 qs.1.0) ftrue) in
    qed 𝓛 ((‵ toks ⊛ ‵ (owns (types_at ended.signature.params κs) a y.0.4)) ∷ given (n.name ≡ m.name) (‵ ftrue) ∷ []) ∵ move ! (1 ∷ []) $ learn ! (λ asked. drop ! $ split ! $
    fsplit ! $ move ! (1 ∷ []) $ fsplit ! $ move ! (3 ∷ []) $ fsplit ! $ fsplit3 ! $ move ! (3 ∷ []) $ fsplit ! $ fsplit ! $ keep ! (1 ∷ 4 ∷ 5 ∷ 8 ∷ 6 ∷ []) $
    enter ! 𝓣.C 𝓣.Λ fn (vptr b o ∷ vptr d p ∷ []) Post $ alloc_all ! (λ l. pass_all ! refl ((tt, tt), ((tt, tt), tt)) $
    use1 𝓛 (‵ (hidden_shr (Token unit) κs.1.0 (record {}, tt) d p) ⊛ ‵ (fhide (moment_owns n.name n.at))) (lent_out 𝓛 Moment.struct (Moment.the_codes (marker.the_row unit).coded) Moment.the_heap Moment.the_lent κs.1.0 n d p) $ split ! $ drop ! $ unhide ! $
    rewrite ! 0 (λ (γ : ℕ). ‵ (moment_owns γ n.at)) asked refl $ move ! (1 ∷ 2 ∷ 3 ∷ []) $ opens ! tt Ms b o (λ ds. move ! (1 ∷ []) $ fsplit ! $
    move ! (1 ∷ 6 ∷ []) $ use2 𝓛 (some (λ (x : ℕ). given (x ≡ max m.at n.at) (‵ (moment_owns m.name x)))) (steps.learns 𝓛 m.name m.at n.at) $ pick ! (λ x. learn ! (λ is.
    let m' : Ms.Denot = record { marker = m.marker; name = m.name; at = x } in let A₂ : Type 0 = x ≡ max m.at n.at in
    move ! (1 ∷ 0 ∷ []) $ fjoin ! $ move ! (1 ∷ 0 ∷ 2 ∷ 3 ∷ 4 ∷ []) $ closes ! tt Ms m' ds b o $ sets ! (of_opd ! (unit_lit !)) refl (tt, tt) $
    feq_i ! (List Val) (vptr b o ∷ []) (vptr b o ∷ []) refl $ fjoin3 ! $ nothing ! $ nothing ! $ fjoin ! $ move ! (1 ∷ 0 ∷ []) $ fjoin ! $
    nothing ! $ move ! (3 ∷ 0 ∷ []) $ fjoin ! $ move ! (2 ∷ 0 ∷ []) $ fjoin ! $ feq_i ! (List Val) (vunit ∷ []) (vunit ∷ []) refl $
    use0 𝓛 (raw (fact 𝓤 A₂)) (fact_i 𝓤 A₂ (emp 𝓤) is) $ use0 𝓛 (raw (fact 𝓤 A₁)) (fact_i 𝓤 A₁ (emp 𝓤) refl) $ join ! $
    returns ! (look_at ! 0 refl) $ free_all ! refl $ keep ! (2 ∷ 3 ∷ 1 ∷ 0 ∷ []) $ by ! (leaves 𝓛 ended hs c y vunit tt (m', (tt, tt)) (tt, (tt, tt)))))))))
