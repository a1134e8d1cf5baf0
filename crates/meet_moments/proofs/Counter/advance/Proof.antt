-- `advance` compares the moment with the counter, which goes on.
use Rattle.std.proofs.Common.{◌≡◌, ℕ, ◌+◌, ◌≤◌, List, [], ◌∷◌, refl, w64}
use mir.Syntax.{named}
use mir.Val.{Val, vunit, vint, vptr}
use base.Logic.{SProp, emp}
use base.Fml.{ftrue, flft}
use types.Kit.{‵, raw, ◌⊛◌, given, later, ◌$◌, ◌∵◌, !, qed, by, move, keep, drop, split, join, fsplit, fsplit3, fjoin, fjoin3, learn, use0, use2, await, rewrite, feq_i}
use types.Run.{of_opd, unit_lit, returns, enter}
use types.ByLocal.{alloc_all, pass_all, free_all, look_at, sets}
use contract.Monad.{fact, fact_i}
use contract.Running.{tables}
use denote.Builtin.{u64}
use denote.Exit.{yes}
use denote.Plain.{uint_vals, uint_Tells}
use denote.RattleType.{RattleType, owns}
use denote.Ref.{mut_vals, mut_Tells}
use denote.Signature.{types_at, plain}
use denote.Steps.{nothing, opens, closes}
use denote.Triple.Walked.{Stays, stay_dropped, stay_ref, walk_of, Goes-dropped, Goes-ref}
use Rattle.std.proofs.raw_atomic.Walks.{proved, leaves}
use Rattle.meet_moments.specs.Kept.{counter_owns, moment_owns}
use Rattle.meet_moments.specs.contracts.Counter as Counter
use Rattle.meet_moments.specs.contracts.Moment as Moment
use Rattle.meet_moments.proofs.Steps as steps
use Rattle.meet_moments.specs.contracts.Counter.advance.{ended, clauses}
use Rattle.meet_moments.specs.contracts.Counter.advance.Key.{name as #self}
use Rattle.meet_moments.proofs.Counter.advance.Statement.{statement}
use Rattle.meet_moments.proofs.Counter.advance.Code as code

pub advance_spec : {M : Type 1} → statement M
advance_spec 𝓤 𝓛 𝓜 𝓡 wired =
    let H = 𝓛.H in let 𝓣 = tables 𝓤 H 𝓜 𝓡 𝓡.env in let fn = code.function in let c = clauses 𝓛 𝓜.mem 𝓡.returns in let Cs : RattleType = Counter.the_row in let Ms : RattleType = Moment.the_row in
    let hs : Stays ended.signature.params ended.kept = (stay_ref (0 ∷ []) tt (plain (λ _. Cs)), (stay_ref (1 ∷ []) tt (plain (λ _. Ms)), (stay_dropped (plain (λ _. u64)) yes, tt))) in
    proved 𝓛 ended hs c 𝓜 𝓡 (Goes-ref 𝓛 2 0 tt (plain (λ _. Cs)), (Goes-ref 𝓛 2 1 tt (plain (λ _. Ms)), (Goes-dropped 𝓛 2 (plain (λ _. u64)) yes (λ κs x f. refl), tt))) #self fn (code.unfolded 𝓤 H 𝓜 𝓡 wired)
    (λ κs. (mut_vals, (mut_vals, (uint_vals w64, tt)))) (λ κs. (mut_Tells (named 0) κs.0 Cs, (mut_Tells (named 1) κs.1.0 Ms, (uint_Tells w64, tt)))) (λ κs qs bounds a gh are.
    let b : ℕ = a.0.ref_ptr.0 in let o : ℕ = a.0.ref_ptr.1 in let d : ℕ = a.1.0.ref_ptr.0 in let p : ℕ = a.1.0.ref_ptr.1 in let h : Cs.Denot = a.0.now in let m : Ms.Denot = a.1.0.now in let k : ℕ = a.1.1.0 in
    let h' : Cs.Denot = record { marker = h.marker; name = h.name; now = h.now + k } in let m' : Ms.Denot = record { marker = m.marker; name = h.name; at = h.now + k } in
    let A₁ : Type 0 = m.at ≤ h.now in let A₂ : Type 0 = (h.name ≡ h.name) × (h.now + k ≡ h.now + k) in let A₃ : Type 0 = (h.name ≡ h.name) × (h.now + k ≡ h.now + k) in
    let y : (walk_of 𝓛 ended hs c).Ghost = ((κs, qs, bounds, a, (vptr b o ∷ [], (vptr d p ∷ [], (vint w64 k ∷ [], tt)))), gh) in let Post : Val → SProp 𝓤 = (walk_of 𝓛 ended hs c).post y in
    qed 𝓛 (((‵ (flft κs.0 qs.0) ⊛ ‵ (flft κs.1.0 qs.1.0) ⊛ ‵ ftrue) ⊛ ‵ (owns (types_at ended.signature.params κs) a y.0.4)) ∷ given (m.name ≡ h.name) (‵ ftrue) ∷ []) ∵ move ! (1 ∷ []) $ learn ! (λ asked. drop ! $ split ! $ split ! $ move ! (1 ∷ []) $ split ! $
    -- [the moment's token; nothing; the counter's token; the parameters]
    move ! (3 ∷ []) $ fsplit ! $ fsplit3 ! $ drop ! $ move ! (2 ∷ []) $ fsplit ! $ fsplit3 ! $ drop ! $
    -- [the moment, in two parts; nothing; the counter, in two parts; the moment's token; nothing; the counter's]
    keep ! (3 ∷ 4 ∷ 7 ∷ 0 ∷ 1 ∷ 5 ∷ []) $
    enter ! 𝓣.C 𝓣.Λ fn (vptr b o ∷ vptr d p ∷ vint w64 k ∷ []) Post $ alloc_all ! (λ l. pass_all ! refl ((tt, tt), ((tt, tt), ((tt, record { fits = are.1.1.0.1 }), tt))) $
    opens ! tt Cs b o (λ cs. move ! (5 ∷ 6 ∷ 7 ∷ []) $ opens ! tt Ms d p (λ ds. move ! (1 ∷ []) $ fsplit ! $ move ! (7 ∷ []) $ fsplit ! $ move ! (1 ∷ 3 ∷ []) $
    rewrite ! 1 (λ (γ : ℕ). ‵ (moment_owns γ m.at)) asked refl $
    use2 𝓛 (later (given (m.at ≤ h.now) (‵ (counter_owns h.name (h.now + k)) ⊛ ‵ (moment_owns h.name (h.now + k))))) (steps.advances 𝓛 h.name h.now m.at k) $ await ! tt $ learn ! (λ low. split ! $
    move ! (2 ∷ 0 ∷ []) $ fjoin ! $ move ! (2 ∷ 1 ∷ []) $ fjoin ! $
    move ! (2 ∷ 0 ∷ 3 ∷ 4 ∷ 5 ∷ []) $ closes ! tt Ms m' ds d p $ move ! (4 ∷ 3 ∷ 5 ∷ 6 ∷ 7 ∷ []) $ closes ! tt Cs h' cs b o $
    sets ! (of_opd ! (unit_lit !)) refl (tt, tt) $
    feq_i ! (List Val) (vptr b o ∷ []) (vptr b o ∷ []) refl $ fjoin3 ! $ move ! (2 ∷ 3 ∷ []) $ feq_i ! (List Val) (vptr d p ∷ []) (vptr d p ∷ []) refl $ fjoin3 ! $
    nothing ! $ nothing ! $ fjoin ! $ move ! (1 ∷ 0 ∷ []) $ fjoin ! $ move ! (1 ∷ 0 ∷ []) $ fjoin ! $
    nothing ! $ move ! (3 ∷ 0 ∷ []) $ join ! $ move ! (2 ∷ 0 ∷ []) $ join ! $
    feq_i ! (List Val) (vunit ∷ []) (vunit ∷ []) refl $
    use0 𝓛 (raw (fact 𝓤 A₃)) (fact_i 𝓤 A₃ (emp 𝓤) (refl, refl)) $ use0 𝓛 (raw (fact 𝓤 A₂)) (fact_i 𝓤 A₂ (emp 𝓤) (refl, refl)) $ join ! $ use0 𝓛 (raw (fact 𝓤 A₁)) (fact_i 𝓤 A₁ (emp 𝓤) low) $ join ! $
    returns ! (look_at ! 0 refl) $ free_all ! refl $ keep ! (2 ∷ 3 ∷ 1 ∷ 0 ∷ []) $ by ! (leaves 𝓛 ended hs c y vunit tt (h', (m', (tt, tt))) (tt, (tt, (tt, tt))))))))))
