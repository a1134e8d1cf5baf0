-- How far a text was read, line by line: what the lines so far read as, and which are left.
use Rattle.std.proofs.Common.{◌≡◌, ℕ, ◌+◌, List, [], ◌∷◌, ◌++◌, Option, Some, None, refl, sym, ap, ◌∙◌, subst, append_assoc, append-nil}
use Rattle.std.specs.Prelude.{IfSome}
use Rattle.meet_run.specs.Texts.Reading.{lines_of, Listed, listed, Both, no_more, faulty_at, with_item}
use Rattle.meet_run.proofs.Scripts.ScriptLemmas.{listed-end, listed-more, listed-fault}

-- what holds of a value that is known
pub known : {X : Type 0} (Q : X → Type 0) (o : Option X) (x : X) → o ≡ Some x → IfSome o Q → Q x
known Q o x is holds = subst (λ p. IfSome p Q) is holds

-- what holds of every text holds of one, as far as it is known
pub everywhere : (o : Option (List ℕ)) (Q : List ℕ → Type 0) → ((xs : List ℕ) → Q xs) → IfSome o Q
everywhere None Q all = tt
everywhere (Some xs) Q all = all xs

module _ {A : Type 0} (reading : ℕ → List ℕ → Option A) where
  -- of these lines, behind a first one, so many were read, that one included; they read as these, and the others are left
  pub record Came (items : List A) (read : ℕ) (lines rest : List (List ℕ)) : Type 0 where
    pub items_are : (listed reading 2 lines).items ≡ items ++ (listed reading (read + 1) rest).items
    pub fault_is : (listed reading 2 lines).fault ≡ (listed reading (read + 1) rest).fault

  came-first : (lines : List (List ℕ)) → Came [] 1 lines lines
  came-first lines = record { items_are = refl; fault_is = refl }

  came-more : (items : List A) (read : ℕ) (lines rest : List (List ℕ)) (line : List ℕ) (more : List (List ℕ)) (item : A) → Came items read lines rest → rest ≡ line ∷ more → reading (read + 1) line ≡ Some item → Came (items ++ item ∷ []) (read + 1) lines more
  came-more items read lines rest line more item came is reads =
      let left : Listed A = listed reading (read + 1 + 1) more in
      let next : listed reading (read + 1) rest ≡ with_item item left = ap (λ (ls : List (List ℕ)). listed reading (read + 1) ls) is ∙ listed-more reading (read + 1) line more item reads in
      record {
        items_are = came.items_are ∙ (ap (λ (c : Listed A). items ++ c.items) next ∙ sym (append_assoc items (item ∷ []) left.items));
        fault_is = came.fault_is ∙ ap (λ (c : Listed A). c.fault) next;
      }

  -- what the lines are, where none is left, and before one that reads as nothing
  pub record AreThese (items : List A) (fault : Option ℕ) (lines : List (List ℕ)) : Type 0 where
    pub items_are : (listed reading 2 lines).items ≡ items
    pub fault_is : (listed reading 2 lines).fault ≡ fault

  pub came-end : (items : List A) (read : ℕ) (lines rest : List (List ℕ)) → Came items read lines rest → rest ≡ [] → AreThese items None lines
  came-end items read lines rest came is =
      let next : listed reading (read + 1) rest ≡ no_more = ap (λ (ls : List (List ℕ)). listed reading (read + 1) ls) is ∙ listed-end reading (read + 1) in
      record {
        items_are = came.items_are ∙ (ap (λ (c : Listed A). items ++ c.items) next ∙ append-nil items);
        fault_is = came.fault_is ∙ ap (λ (c : Listed A). c.fault) next;
      }

  pub came-fault : (items : List A) (read : ℕ) (lines rest : List (List ℕ)) (line : List ℕ) (more : List (List ℕ)) → Came items read lines rest → rest ≡ line ∷ more → reading (read + 1) line ≡ None → AreThese items (Some (read + 1)) lines
  came-fault items read lines rest line more came is reads =
      let next : listed reading (read + 1) rest ≡ faulty_at (read + 1) = ap (λ (ls : List (List ℕ)). listed reading (read + 1) ls) is ∙ listed-fault reading (read + 1) line more reads in
      record {
        items_are = came.items_are ∙ (ap (λ (c : Listed A). items ++ c.items) next ∙ append-nil items);
        fault_is = came.fault_is ∙ ap (λ (c : Listed A). c.fault) next;
      }

  -- so many lines were read, as far as the text is known
  abbrev pub HasCome : (items : List A) (read : ℕ) (old now : Option (List ℕ)) → Type 0
  HasCome items read old now = Both old now (λ first rest. Came items read (lines_of first) (lines_of rest))

  pub has_come-first : (reader : Option (List ℕ)) → HasCome [] 1 reader reader
  has_come-first None = tt
  has_come-first (Some xs) = came-first (lines_of xs)

  pub has_come-more : (items : List A) (read : ℕ) (old mid new : Option (List ℕ)) (item : A) → HasCome items read old mid → Both mid new (λ xs ys. (line : List ℕ) × (lines_of xs ≡ line ∷ lines_of ys) × (reading (read + 1) line ≡ Some item)) → HasCome (items ++ item ∷ []) (read + 1) old new
  has_come-more items read None mid new item came next = tt
  has_come-more items read (Some xs) None new item came next = absurd came
  has_come-more items read (Some xs) (Some ys) None item came next = absurd next
  has_come-more items read (Some xs) (Some ys) (Some zs) item came next = came-more items read (lines_of xs) (lines_of ys) next.0 (lines_of zs) item came next.1 next.2

  -- what is known of all the lines, from what is known here
  pub at-first : (P : (lines : List (List ℕ)) → Type 0) (items : List A) (read : ℕ) (old now : Option (List ℕ)) → HasCome items read old now → ((xs ys : List ℕ) → now ≡ Some ys → Came items read (lines_of xs) (lines_of ys) → P (lines_of xs)) → IfSome old (λ xs. P (lines_of xs))
  at-first P items read None now came here = tt
  at-first P items read (Some xs) None came here = absurd came
  at-first P items read (Some xs) (Some ys) came here = here xs ys refl came

  pub at-end : (P : (lines : List (List ℕ)) → Type 0) (items : List A) (read : ℕ) (old now : Option (List ℕ)) → HasCome items read old now → IfSome now (λ xs. lines_of xs ≡ []) → ((lines : List (List ℕ)) → AreThese items None lines → P lines) → IfSome old (λ xs. P (lines_of xs))
  at-end P items read old now came none here = at-first P items read old now came
      (λ xs ys is arrived. here (lines_of xs) (came-end items read (lines_of xs) (lines_of ys) arrived (known (λ zs. lines_of zs ≡ []) now ys is none)))

  pub at-fault : (P : (lines : List (List ℕ)) → Type 0) (items : List A) (read : ℕ) (old now : Option (List ℕ)) → HasCome items read old now → IfSome now (λ xs. (line : List ℕ) × (lines : List (List ℕ)) × (lines_of xs ≡ line ∷ lines) × (reading (read + 1) line ≡ None)) → ((lines : List (List ℕ)) → AreThese items (Some (read + 1)) lines → P lines) → IfSome old (λ xs. P (lines_of xs))
  at-fault P items read old now came faulty here = at-first P items read old now came
      (λ xs ys is arrived. (let bad = known (λ zs. (line : List ℕ) × (lines : List (List ℕ)) × (lines_of zs ≡ line ∷ lines) × (reading (read + 1) line ≡ None)) now ys is faulty in
      here (lines_of xs) (came-fault items read (lines_of xs) (lines_of ys) bad.0 bad.1 arrived bad.2 bad.3)))
