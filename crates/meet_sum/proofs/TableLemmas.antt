-- Stories of many tickets: where a ticket stands, and how the stories change.
use Rattle.std.proofs.Common.{◌≡◌, ◌≢◌, ℕ, zero, suc, ◌==◌, refl, sym, ap, ◌∙◌, ⊎_elim, cond, false, Some, List, [], ◌∷◌, ◌++◌, ◌+◌, ◌<◌, ◌≤◌, length, get_or, take, map, arith, Ok, Err}
use Rattle.std.specs.Prelude.{slice_set}
use Rattle.std.specs.List.Sorted.{IsStrictlyIncreasing, IsBinarySearchResult}
use Rattle.std.specs.Option.{option_map_or}
use Rattle.std.specs.Ordering.{nat_cmp}
use Rattle.std.proofs.Math.Path.{fun_ext}
use Rattle.std.proofs.lemmas.Bool.{ne_eqb, eq-eqb, cases_eq, cases_lt}
use Rattle.std.proofs.lemmas.List.{append_assoc, take_more, length-append, length-take-le, map-append}
use Rattle.std.proofs.lemmas.List.Kept.{AllPairs-from_increasing}
use Rattle.std.proofs.lemmas.List.Sorted.{searched}
use Rattle.meet_tickets.specs.declared.records.Deed.{Deed}
use Rattle.meet_tickets.specs.declared.records.Record.{Record}
use Rattle.meet_tickets.specs.BySeat.{put_at}
use Rattle.meet_tickets.specs.Fates.{named_by, meets_it}
use Rattle.meet_sum.specs.declared.stories.Story.{Story}
use Rattle.meet_sum.specs.Stories.{story_in}
use Rattle.meet_sum.proofs.StoryLemmas.{story_of_others}

-- of rising tickets each is below those behind it
pub below : (tickets : List ℕ) → IsStrictlyIncreasing tickets → (i j : ℕ) → i < j → j < length tickets → get_or tickets i 0 < get_or tickets j 0
below tickets rising i j before within = AllPairs-from_increasing tickets rising i j 0 before within

never-less : (tickets : List ℕ) → IsStrictlyIncreasing tickets → (i j : ℕ) → i ≤ j → j < length tickets → get_or tickets i 0 ≤ get_or tickets j 0
never-less tickets rising i j before within = ⊎_elim
    (λ (less : i < j). let low : get_or tickets i 0 < get_or tickets j 0 = below tickets rising i j less within in omega arith)
    (λ (more : j ≤ i). let same : i ≡ j = omega arith in let own : get_or tickets i 0 ≡ get_or tickets j 0 = ap (λ k. get_or tickets k 0) same in omega arith)
    (cases_lt i j)

-- no ticket stands twice
pub apart : (tickets : List ℕ) → IsStrictlyIncreasing tickets → (i t : ℕ) → i < length tickets → get_or tickets i 0 ≡ t → (k : ℕ) → k < length tickets → k ≢ i → get_or tickets k 0 ≢ t
apart tickets rising i t within at k low other = ⊎_elim
    (λ (less : k < i). λ same. let gap : get_or tickets k 0 < get_or tickets i 0 = below tickets rising k i less within in absurd (omega arith))
    (λ (more : i ≤ k). ⊎_elim
    (λ (above : i < k). λ same. let gap : get_or tickets i 0 < get_or tickets k 0 = below tickets rising i k above low in absurd (omega arith))
    (λ (not_above : k ≤ i). absurd (other (omega arith)))
    (cases_lt i k))
    (cases_lt k i)

-- what a search found, or that it found nothing
pub search-found : (tickets : List ℕ) (t i : ℕ) → IsStrictlyIncreasing tickets → IsBinarySearchResult (λ y. nat_cmp y t) tickets (Ok i) → (i < length tickets) × (get_or tickets i 0 ≡ t)
search-found tickets t i rising found = searched tickets t (Ok i) found (never-less tickets rising)

pub search-none : (tickets : List ℕ) (t i : ℕ) → IsStrictlyIncreasing tickets → IsBinarySearchResult (λ y. nat_cmp y t) tickets (Err i) → (k : ℕ) → k < length tickets → get_or tickets k 0 ≢ t
search-none tickets t i rising found k within =
    let parts = searched tickets t (Err i) found (never-less tickets rising) in
    λ same. ⊎_elim
    (λ (less : k < i). let gap : get_or tickets k 0 < t = parts.1 k less in absurd (omega arith))
    (λ (more : i ≤ k). let gap : t < get_or tickets k 0 = parts.2 k more within in absurd (omega arith))
    (cases_lt k i)

-- of a ticket that isn't there nothing is kept
pub map-absent : (f : ℕ → Story) (tickets : List ℕ) (t : ℕ) (x : Story) → ((k : ℕ) → k < length tickets → get_or tickets k 0 ≢ t) → map f tickets ≡ map (put_at f t x) tickets
map-absent f [] t x absent = refl
map-absent f (u ∷ tickets) t x absent =
    let first : u ≢ t = absent 0 (omega arith) in
    let own : f u ≡ put_at f t x u = sym (ap (λ b. cond b x (f u)) (ne_eqb u t first)) in
    let rest : map f tickets ≡ map (put_at f t x) tickets = map-absent f tickets t x (λ k within. absent (suc k) (omega arith)) in
    λ i. (own i ∷ rest i)

-- what is told of the ticket at a place takes the place of what was
pub map-put : (f : ℕ → Story) (tickets : List ℕ) (t : ℕ) (x : Story) (i : ℕ) → i < length tickets → get_or tickets i 0 ≡ t → ((k : ℕ) → k < length tickets → k ≢ i → get_or tickets k 0 ≢ t) → slice_set (map f tickets) i x ≡ map (put_at f t x) tickets
map-put f [] t x i within at others = absurd (omega arith)
map-put f (u ∷ tickets) t x zero within at others =
    let own : x ≡ put_at f t x u = sym (ap (λ b. cond b x (f u)) (eq-eqb u t at)) in
    let rest : map f tickets ≡ map (put_at f t x) tickets = map-absent f tickets t x (λ k low. others (suc k) (omega arith) (λ e. let clash : suc k ≡ 0 = e in absurd (omega arith))) in
    λ j. (own j ∷ rest j)
map-put f (u ∷ tickets) t x (suc i) within at others =
    let first : u ≢ t = others 0 (omega arith) (λ e. let clash : 0 ≡ suc i = e in absurd (omega arith)) in
    let own : f u ≡ put_at f t x u = sym (ap (λ b. cond b x (f u)) (ne_eqb u t first)) in
    let rest : slice_set (map f tickets) i x ≡ map (put_at f t x) tickets = map-put f tickets t x i (omega arith) at (λ k low n. others (suc k) (omega arith) (λ e. n (omega (arith, e)))) in
    λ j. (own j ∷ rest j)

pub map-at : (f : ℕ → Story) (tickets : List ℕ) (i : ℕ) (d : Story) → i < length tickets → get_or (map f tickets) i d ≡ f (get_or tickets i 0)
map-at f [] i d within = absurd (omega arith)
map-at f (u ∷ tickets) zero d within = refl
map-at f (u ∷ tickets) (suc i) d within = map-at f tickets i d (omega arith)

-- the same of a ticket by its number
module _ (f : ℕ → Story) (tickets : List ℕ) (t n : ℕ) (x : Story) (is : n ≡ t) where
  pub absent-put : ((k : ℕ) → k < length tickets → get_or tickets k 0 ≢ n) → map f tickets ≡ map (put_at f t x) tickets
  absent-put absent = map-absent f tickets t x (λ k within same. absent k within (same ∙ sym is))

  module _ (stories : List Story) (are : stories ≡ map f tickets) (i : ℕ) (at : (i < length tickets) × (get_or tickets i 0 ≡ n)) where
    pub held-at : (d : Story) → get_or stories i d ≡ f t
    held-at d = ap (λ xs. get_or xs i d) are ∙ map-at f tickets i d at.0 ∙ ap f (at.1 ∙ is)

    pub put-there : IsStrictlyIncreasing tickets → slice_set stories i x ≡ map (put_at f t x) tickets
    put-there rising =
        ap (λ xs. slice_set xs i x) are ∙ map-put f tickets t x i at.0 (at.1 ∙ is) (apart tickets rising i t at.0 (at.1 ∙ is))

-- nothing is told of one ticket more
pub one-untold : (tickets : List ℕ) (i : ℕ) → i < length tickets → (old new : List Story) → old ≡ map (story_in []) (take i tickets) → ((t : ℕ) → new ≡ old ++ story_in [] t ∷ []) → new ≡ map (story_in []) (take (i + 1) tickets)
one-untold tickets i within old new so_far push =
    let t = get_or tickets i 0 in
    push t ∙ ap (λ xs. xs ++ story_in [] t ∷ []) so_far ∙ sym (map-append (story_in []) (take i tickets) (t ∷ [])) ∙ ap (map (story_in [])) (sym (take_more tickets i 0 within))

alike : (f g : ℕ → Story) (tickets : List ℕ) → ((t : ℕ) → f t ≡ g t) → map f tickets ≡ map g tickets
alike f g tickets same = ap (λ h. map h tickets) (fun_ext same)

-- elsewhere nothing has changed
pub put-others : (f : ℕ → Story) (t : ℕ) (x : Story) (u : ℕ) → u ≢ t → put_at f t x u ≡ f u
put-others f t x u n = ap (λ b. cond b x (f u)) (ne_eqb u t n)

-- the record of its own ticket and then of its partner, or of its own alone, is heard by all
module _ (history : List (Record Deed)) (r : Record Deed) (tickets : List ℕ) where
  abbrev later : ℕ → Story
  later = story_in (history ++ r ∷ [])

  pub heard-alone : ((t : ℕ) → r.ticket ≢ t → meets_it t r ≡ false) → map (put_at (story_in history) r.ticket (later r.ticket)) tickets ≡ map later tickets
  heard-alone unnamed = alike (put_at (story_in history) r.ticket (later r.ticket)) later tickets each
    where
      each : (t : ℕ) → put_at (story_in history) r.ticket (later r.ticket) t ≡ later t
      each t = ⊎_elim (λ e. ap (λ b. cond b (later r.ticket) (story_in history t)) (eq-eqb t r.ticket e) ∙ ap later (sym e))
          (λ n. ap (λ b. cond b (later r.ticket) (story_in history t)) (ne_eqb t r.ticket n) ∙ sym (story_of_others history r t (λ e. n (sym e)) (unnamed t (λ e. n (sym e)))))
          (cases_eq t r.ticket)

  pub heard-both : (u : ℕ) → named_by r.deed ≡ Some u → map (put_at (put_at (story_in history) r.ticket (later r.ticket)) u (later u)) tickets ≡ map later tickets
  heard-both u named = alike (put_at (put_at (story_in history) r.ticket (later r.ticket)) u (later u)) later tickets each
    where
      others : (t : ℕ) → t ≢ u → put_at (story_in history) r.ticket (later r.ticket) t ≡ later t
      others t n = ⊎_elim (λ e. ap (λ b. cond b (later r.ticket) (story_in history t)) (eq-eqb t r.ticket e) ∙ ap later (sym e))
          (λ m. ap (λ b. cond b (later r.ticket) (story_in history t)) (ne_eqb t r.ticket m)
          ∙ sym (story_of_others history r t (λ e. m (sym e)) (ap (λ o. option_map_or (λ v. v == t) o false) named ∙ ne_eqb u t (λ e. n (sym e)))))
          (cases_eq t r.ticket)

      each : (t : ℕ) → put_at (put_at (story_in history) r.ticket (later r.ticket)) u (later u) t ≡ later t
      each t = ⊎_elim (λ e. ap (λ b. cond b (later u) (put_at (story_in history) r.ticket (later r.ticket) t)) (eq-eqb t u e) ∙ ap later (sym e))
          (λ n. ap (λ b. cond b (later u) (put_at (story_in history) r.ticket (later r.ticket) t)) (ne_eqb t u n) ∙ others t n)
          (cases_eq t u)

-- one record more of those that are heard
pub heard-more : {A : Type 0} (history xs : List A) (i : ℕ) (r : A) → i < length xs → r ≡ get_or xs i r → (history ++ take i xs) ++ r ∷ [] ≡ history ++ take (i + 1) xs
heard-more history xs i r within is =
    append_assoc history (take i xs) (r ∷ []) ∙ ap (λ ys. history ++ ys) (ap (λ x. take i xs ++ x ∷ []) is ∙ sym (take_more xs i r within))

pub heard-length : {A : Type 0} (history xs : List A) (i : ℕ) → i ≤ length xs → length (history ++ take i xs) ≡ length history + i
heard-length history xs i within = length-append history (take i xs) ∙ ap (λ n. length history + n) (length-take-le i xs within)
