-- `moment` tells how far the counter has come, which is so for good.
use Rattle.std.proofs.Common.{◌≡◌, ℕ, List, [], ◌∷◌, refl}
use mir.Syntax.{named}
use mir.Val.{Val, vptr}
use base.Logic.{SProp, emp}
use base.Fml.{ftrue, flft}
use types.Kit.{‵, raw, ◌⊛◌, ◌$◌, ◌∵◌, !, qed, by, move, keep, split, join, fsplit, fsplit3, fjoin, fjoin3, use0, use1, feq_i}
use types.Run.{no_more, and_then, returns, enter}
use types.ByLocal.{alloc_all, pass_all, free_all, look_at, get, sets}
use types.Part.{agg}
use contract.Monad.{fact, fact_i}
use contract.Running.{tables}
use denote.Builtin.{unit}
use denote.RattleType.{RattleType, owns}
use denote.Ref.{mut_vals, mut_Tells}
use denote.Signature.{types_at, plain}
use denote.Steps.{nothing, opens, closes}
use denote.Triple.Walked.{Stays, stay_ref, walk_of, Goes-ref}
use Rattle.std.proofs.raw_atomic.Walks.{proved, leaves}
use Rattle.meet_moments.specs.Kept.{counter_owns, moment_owns}
use Rattle.meet_moments.specs.contracts.Counter as Counter
use Rattle.meet_moments.specs.contracts.Moment as Moment
use Rattle.meet_moments.proofs.Steps as steps
use Rattle.meet_moments.proofs.Tokens.{token, Token, token_made}
use Rattle.meet_moments.specs.contracts.Counter.moment.{ended, clauses}
use Rattle.meet_moments.specs.contracts.Counter.moment.Key.{name as #self}
use Rattle.meet_moments.proofs.Counter.moment.Statement.{statement}
use Rattle.meet_moments.proofs.Counter.moment.Code as code

pub moment_spec : {M : Type 1} → statement M
moment_spec 𝓤 𝓛 𝓜 𝓡 wired =
    let H = 𝓛.H in let 𝓣 = tables 𝓤 H 𝓜 𝓡 𝓡.env in let fn = code.function in let c = clauses 𝓛 𝓜.mem 𝓡.returns in let Cs : RattleType = Counter.the_row in
    let hs : Stays ended.signature.params ended.kept = (stay_ref (0 ∷ []) tt (plain (λ _. Cs)), tt) in
    proved 𝓛 ended hs c 𝓜 𝓡 (Goes-ref 𝓛 1 0 tt (plain (λ _. Cs)), tt) #self fn (code.unfolded 𝓤 H 𝓜 𝓡 wired)
    (λ κs. (mut_vals, tt)) (λ κs. (mut_Tells (named 0) κs.0 Cs, tt)) (λ κs qs bounds a gh are.
    let b : ℕ = a.0.ref_ptr.0 in let o : ℕ = a.0.ref_ptr.1 in let h : Cs.Denot = a.0.now in
    let r : Moment.the_row.Denot = record { marker = record {}; name = h.name; at = h.now } in let A₁ : Type 0 = (h.name ≡ h.name) × (h.now ≡ h.now) in let A₂ : Type 0 = h ≡ h in
    let y : (walk_of 𝓛 ended hs c).Ghost = ((κs, qs, bounds, a, (vptr b o ∷ [], tt)), gh) in let Post : Val → SProp 𝓤 = (walk_of 𝓛 ended hs c).post y in
    qed 𝓛 (((‵ (flft κs.0 qs.0) ⊛ ‵ ftrue) ⊛ ‵ (owns (types_at ended.signature.params κs) a y.0.4)) ∷ raw ((c κs a).requires gh) ∷ []) ∵ keep ! (0 ∷ []) $ split ! $ split ! $ move ! (2 ∷ []) $ fsplit ! $ fsplit3 ! $ keep ! (1 ∷ 2 ∷ 4 ∷ []) $
    enter ! 𝓣.C 𝓣.Λ fn (vptr b o ∷ []) Post $ alloc_all ! (λ l. pass_all ! refl ((tt, tt), tt) $ opens ! tt Cs b o (λ ts. move ! (1 ∷ []) $ fsplit ! $ move ! (1 ∷ []) $
    use1 𝓛 (‵ (counter_owns h.name h.now) ⊛ ‵ (moment_owns h.name h.now)) (steps.shows 𝓛 h.name h.now) $ split ! $ move ! (2 ∷ 0 ∷ []) $ fjoin ! $ move ! (2 ∷ 0 ∷ 3 ∷ 4 ∷ 5 ∷ []) $
    closes ! tt Cs h ts b o $ feq_i ! (List Val) (vptr b o ∷ []) (vptr b o ∷ []) refl $ fjoin3 ! $ nothing ! $ move ! (1 ∷ 0 ∷ []) $ fjoin ! $ nothing ! $ move ! (2 ∷ 0 ∷ []) $ join ! $ move ! (2 ∷ []) $
    use0 𝓛 (‵ ((Token unit).own_val (record {}, tt) (token ∷ []))) (token_made unit 𝓛) $ fjoin ! $ sets ! (agg ! (no_more !)) refl (tt, tt) $ sets ! (agg ! (and_then ! (get ! refl) (no_more !))) refl (tt, (tt, tt)) $
    use0 𝓛 (raw (fact 𝓤 A₂)) (fact_i 𝓤 A₂ (emp 𝓤) refl) $ use0 𝓛 (raw (fact 𝓤 A₁)) (fact_i 𝓤 A₁ (emp 𝓤) (refl, refl)) $ join ! $
    returns ! (look_at ! 0 refl) $ free_all ! refl $ keep ! (2 ∷ 3 ∷ 1 ∷ 0 ∷ []) $ by ! (leaves 𝓛 ended hs c y token r (h, tt) (tt, tt)))))
