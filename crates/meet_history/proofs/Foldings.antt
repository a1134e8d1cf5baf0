-- Records that were folded into a base, and those since.
use Rattle.std.proofs.Common.{◌≡◌, ◌+◌, ℕ, refl, sym, ap, ◌∙◌, subst, List, [], ◌++◌, append_assoc, append-nil, length, length-append}
use Rattle.std.specs.Prelude.{◌↔◌}
use Rattle.meet_tickets.specs.declared.places.Kind.{Kind}
use Rattle.meet_tickets.specs.declared.records.Record.{Record}
use Rattle.meet_tickets.specs.declared.records.Deed.{Deed}
use Rattle.meet_tickets.specs.Bases.{Based, no_base, moment_of_base, IsWellFormed, IsLegalOn, IsBaseOf, Folds}
use Rattle.meet_tickets.specs.BySeat.{moment_of}
use Rattle.meet_tickets.proofs.OnBases.Based.{no_base_well_formed}
use Rattle.meet_tickets.proofs.Tellings.Continued.{moment_of-append}
use Rattle.meet_tickets.proofs.OnBases.Folded.{folds}
use Rattle.meet_history.specs.Standings.{IsFolded}

-- nothing was written, and nothing folded away
pub folded-none : (k : Kind) → IsFolded k [] no_base []
folded-none k = record {
  past = [];
  parts = refl;
  gone = refl;
  folds = record { well_formed = no_base_well_formed k; stands = refl; next = λ more. (λ legal. legal, λ legal. legal) };
}

-- more was written
pub folded-more : (k : Kind) (all : List (Record Deed)) (base now : Based) (records after more : List (Record Deed)) → now ≡ base → after ≡ records ++ more → IsFolded k all base records → IsFolded k (all ++ more) now after
folded-more k all base now records after more same is folded = record {
  past = folded.past;
  parts = ap (λ xs. xs ++ more) folded.parts ∙ append_assoc folded.past records more ∙ ap (λ xs. folded.past ++ xs) (sym is);
  gone = ap (λ (b : Based). b.gone) same ∙ folded.gone;
  folds = subst (Folds k no_base folded.past) (sym same) folded.folds;
}

-- a base of what a base and records leave stands for all that these stand for
folds-on : (k : Kind) (past records : List (Record Deed)) (base new : Based) → Folds k no_base past base → Folds k base records new → Folds k no_base (past ++ records) new
folds-on k past records base new first second = record {
  well_formed = second.well_formed;
  stands = second.stands ∙ ap (λ m. moment_of k m records) first.stands ∙ sym (moment_of-append k (moment_of_base no_base) past records);
  next = λ more.
      let one : IsLegalOn k new more ↔ IsLegalOn k base (records ++ more) = second.next more in
      let two : IsLegalOn k base (records ++ more) ↔ IsLegalOn k no_base (past ++ (records ++ more)) = first.next (records ++ more) in
      let same : (past ++ records) ++ more ≡ past ++ (records ++ more) = append_assoc past records more in
      (λ legal. subst (IsLegalOn k no_base) (sym same) (two.0 (one.0 legal)), λ legal. one.1 (two.1 (subst (IsLegalOn k no_base) same legal)));
}

-- the records since are folded away too
pub folded-all : (k : Kind) (all : List (Record Deed)) (base new : Based) (records : List (Record Deed)) (count : ℕ) → IsWellFormed k base → IsLegalOn k base records → IsBaseOf (moment_of k (moment_of_base base) records) count new → new.gone ≡ base.gone + length records → IsFolded k all base records → IsFolded k all new []
folded-all k all base new records count well legal is gone folded =
    let more : Folds k base records new = folds k base records count new well legal is in
    let both : Folds k no_base (folded.past ++ records) new = folds-on k folded.past records base new folded.folds more in
    record {
      past = all;
      parts = sym (append-nil all);
      gone = gone ∙ ap (λ n. n + length records) folded.gone ∙ sym (length-append folded.past records) ∙ ap length (sym folded.parts);
      folds = subst (λ past. Folds k no_base past new) (sym folded.parts) both;
    }
