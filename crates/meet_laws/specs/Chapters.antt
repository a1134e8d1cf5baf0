-- The chapters of a history: stretches of its records, each with the base on which it stands (our choice).
use Rattle.std.specs.Prelude.{◌≡◌, ℕ, ◌+◌, ⊤, List, [], ◌∷◌, length}
use Rattle.std.specs.List.{flat_map}
use Rattle.meet_tickets.specs.declared.places.Kind.{Kind}
use Rattle.meet_tickets.specs.declared.records.Record.{Record}
use Rattle.meet_tickets.specs.declared.records.Deed.{Deed}
use Rattle.meet_tickets.specs.BySeat.{moment_of}
use Rattle.meet_tickets.specs.Bases.{Based, IsBaseOf, IsLegalOn, moment_of_base}

-- a base stands for an earlier one and the records since
abbrev pub Succeeds : Kind → (base : Based) → List (Record Deed) → (next : Based) → Type 0
Succeeds k base records next =
    IsBaseOf (moment_of k (moment_of_base base) records) (base.gone + length records) next

-- the chapter behind this one, where there is one, has a base that stands for both what this one stands on and its
-- records
abbrev pub IsSucceeded : Kind → (chapter : Based × List (Record Deed)) → (later : List (Based × List (Record Deed)))
    → Type 0
IsSucceeded k chapter [] = ⊤
IsSucceeded k chapter (next ∷ later) = Succeeds k chapter.0 chapter.1 next.0

-- chapters follow one another: each is legal on its base, and the next one's base stands for it
abbrev pub FollowOn : Kind → List (Based × List (Record Deed)) → Type 0
FollowOn k [] = ⊤
FollowOn k (chapter ∷ later) =
    IsLegalOn k chapter.0 chapter.1 × IsSucceeded k chapter later × FollowOn k later

-- the records of all chapters, in order
abbrev pub records_in : List (Based × List (Record Deed)) → List (Record Deed)
records_in chapters = flat_map (λ chapter. chapter.1) chapters
