-- The ghost side of each function, which types cross threads, and how a walk ends. Assumes `Logic`.
use mathlib.Core.Path.{◌≡◌}
use mathlib.Core.List.{[], ◌∷◌}
use Prim.Native.Nat.{ℕ, ◌≤◌, ◌+◌}
use Rattle.std.specs.Prelude.{max}
use native.Mathlib.Omega.{arith}
use seplogic.Ra.Ura.{Ura}
use base.Fraction.{full_share}
use base.Logic.{SProp, ent, sep, wand, emp, ex, guard, apply∗, via}
use base.Fml.{Lft, Fml, fbor}
use base.Growing.{Least, numbers, latest, at_least}
use base.Shift.{Keyless}
use types.Logic.{Logic, sem, lfts}
use types.Owned.{basic}
use types.Growing.{latest_new, latest_grows, latest_shows, latest_bounds, at_least_dup, at_least_join}
use types.Kit.{‵, raw, ◌⊛◌, given, later, some, pick, show, learn, check, ◌$◌, ◌∵◌, !, qed, move, drop, use1, use2, split, await, updating, now, done}
use denote.Sharing.{said}
use denote.Struct.Lending.{Lends}
use Rattle.meet_moments.specs.Kept.{counter_owns, moment_owns}

pub counter_keyless : (γ n : ℕ) → Keyless (counter_owns γ n)
unfolding latest
counter_keyless γ n = tt

pub moment_keyless : (γ n : ℕ) → Keyless (moment_owns γ n)
unfolding at_least
moment_keyless γ n = tt

module _ {M : Type 1} {𝓤 : Ura M} (𝓛 : Logic 𝓤) where
  pub moment_twice : (γ n : ℕ) → ent 𝓤 (sem 𝓛 (moment_owns γ n)) (sep 𝓤 (sem 𝓛 (moment_owns γ n)) (sem 𝓛 (moment_owns γ n)))
  moment_twice γ n = at_least_dup numbers 𝓛 γ n

pub lends_twice : {M : Type 1} {𝓤 : Ura M} (𝓛 : Logic 𝓤) (P : Fml) → ent 𝓤 (sem 𝓛 P) (sep 𝓤 (sem 𝓛 P) (sem 𝓛 P)) → (l : Lft) → Lends 𝓛 P (said P) l
lends_twice {𝓤 = 𝓤} 𝓛 P twice l κ ts inc sp = let Back = 𝓛.H.⇛ (sep 𝓤 (𝓛.A.bor κ P) (lfts 𝓛 ts)) in
    qed 𝓛 (‵ (fbor κ P) ∷ raw (lfts 𝓛 ts) ∷ []) ∵ updating ! $ use2 𝓛 (later (‵ P ⊛ raw (wand 𝓤 (sem 𝓛 P) Back))) (𝓛.more.bor_acc_by κ ts P sp) $ await ! tt $ split ! $ use1 𝓛 (‵ P ⊛ ‵ P) twice $ split ! $ move ! (0 ∷ 2 ∷ []) $
    use2 𝓛 (later (‵ (fbor κ P) ⊛ raw (lfts 𝓛 ts))) (apply∗ 𝓤 (sem 𝓛 P) Back) $ await ! tt $ split ! $ drop ! $ move ! (1 ∷ 0 ∷ []) $ now ! $ done !

module _ {M : Type 1} {𝓤 : Ura M} (𝓛 : Logic 𝓤) where
  pub begins : ent 𝓤 (emp 𝓤) (𝓛.H.⇛ (ex 𝓤 (λ (γ : ℕ). sem 𝓛 (counter_owns γ 0))))
  begins = via 𝓤 _ (latest_new numbers 𝓛 0) (basic 𝓛 _)

  pub shows : (γ n : ℕ) → ent 𝓤 (sem 𝓛 (counter_owns γ n)) (sep 𝓤 (sem 𝓛 (counter_owns γ n)) (sem 𝓛 (moment_owns γ n)))
  shows γ n = latest_shows numbers 𝓛 full_share γ n n (numbers.same n)

  abbrev pub Advanced : (γ n m k : ℕ) → SProp 𝓤
  Advanced γ n m k = guard 𝓤 (m ≤ n) (sep 𝓤 (sem 𝓛 (counter_owns γ (n + k))) (sem 𝓛 (moment_owns γ (n + k))))

  -- who has seen a moment hasn't seen more than there is; and the counter goes on
  pub advances : (γ n m k : ℕ) → ent 𝓤 (sep 𝓤 (sem 𝓛 (counter_owns γ n)) (sem 𝓛 (moment_owns γ m))) (𝓛.H.⇛ (Advanced γ n m k))
  advances γ n m k = qed 𝓛 (‵ (counter_owns γ n) ∷ ‵ (moment_owns γ m) ∷ []) ∵ updating ! $
      use2 𝓛 (given (m ≤ n) (‵ (counter_owns γ n) ⊛ ‵ (moment_owns γ m))) (latest_bounds numbers 𝓛 full_share γ n m) $ learn ! (λ low. split ! $ move ! (1 ∷ []) $ drop ! $
      use1 𝓛 (later (‵ (counter_owns γ (n + k)))) (via 𝓤 _ (latest_grows numbers 𝓛 γ n (n + k) (omega arith)) (basic 𝓛 _)) $ await ! tt $
      use1 𝓛 (‵ (counter_owns γ (n + k)) ⊛ ‵ (moment_owns γ (n + k))) (shows γ (n + k)) $ now ! $ check ! low $ done !)

  abbrev pub Learned : (γ m n : ℕ) → SProp 𝓤
  Learned γ m n = ex 𝓤 (λ (c : ℕ). guard 𝓤 (c ≡ max m n) (sem 𝓛 (moment_owns γ c)))

  least_is : (m n c : ℕ) → m ≤ c → n ≤ c → ((e : ℕ) → m ≤ e → n ≤ e → c ≤ e) → c ≡ max m n
  least_is m n c one other least = let most = least (max m n) (omega arith) (omega arith) in omega arith

  -- two moments have a later one
  pub learns : (γ m n : ℕ) → ent 𝓤 (sep 𝓤 (sem 𝓛 (moment_owns γ m)) (sem 𝓛 (moment_owns γ n))) (Learned γ m n)
  learns γ m n = qed 𝓛 (‵ (moment_owns γ m) ∷ ‵ (moment_owns γ n) ∷ []) ∵
      use2 𝓛 (some (λ (c : ℕ). given (Least ◌≤◌ m n c) (‵ (moment_owns γ c)))) (at_least_join numbers 𝓛 γ m n) $ pick ! (λ c. learn ! (λ is.
      show ! (λ (x : ℕ). guard 𝓤 (x ≡ max m n) (sem 𝓛 (moment_owns γ x))) c $ check ! (least_is m n c is.0 is.1 is.2) $ done !))
