-- The chapters of a chain, and what is found of them: whether each goes on where those before it end (our choice).
use Rattle.std.specs.Prelude.{◌≡◌, ◌≢◌, ℕ, ◌+◌, Bool, true, false, Option, Some, None, List, [], ◌∷◌, ◌++◌, length, map}
use Rattle.std.specs.Prelude.{◌⊎◌, All, codes, decimal, option_map, if◌then◌else◌}
use Rattle.meet_tickets.specs.declared.places.Kind.{Kind}
use Rattle.meet_tickets.specs.declared.records.Deed.{Deed}
use Rattle.meet_tickets.specs.declared.records.Record.{Record}
use Rattle.meet_tickets.specs.Bases.{Based}
use Rattle.meet_history.specs.declared.checker.CheckFault.{CheckFault}
use Rattle.meet_history.specs.declared.checker.CheckFault.TheVariants.{Illegal as IllegalRecord}
use Rattle.meet_history.specs.Checking.{IsIllegalAt}
use Rattle.meet_history.specs.Pushing.{HasSeen, TellsEnd}
use Rattle.meet_laws.specs.Chapters.{Succeeds, FollowOn, records_in}
use Rattle.meet_run.specs.declared.trace.chain.Broken.{Broken}
use Rattle.meet_run.specs.declared.trace.chain.Chain.{Chain}
use Rattle.meet_run.specs.declared.trace.chain.ChapterFault.{ChapterFault}
use Rattle.meet_run.specs.declared.trace.chain.ChapterFault.TheVariants.{OtherPlace, OtherBase, Illegal}
use Rattle.meet_run.specs.declared.trace.check.ReadTrace.{ReadTrace}
use Rattle.meet_run.specs.Tracing.BasedTraces.{IsVerdictOn}
use Rattle.meet_run.specs.Tracing.TraceWording.{illegal_line}

-- a chapter as its trace tells it: its place, its base, which is empty where none is told, and its records
pub record Chapter : Type 0 where
  pub kind : Kind
  pub base : Based
  pub records : List (Record Deed)

-- its base and records
abbrev pub stretch : Chapter → Based × List (Record Deed)
stretch c = (c.base, c.records)

-- all records of these chapters
abbrev pub all_records : List Chapter → List (Record Deed)
all_records chapters = records_in (map stretch chapters)

-- chapters are of such a place, and follow one another
abbrev pub AreOne : Kind → List Chapter → Type 0
AreOne k chapters = All (λ c. c.kind ≡ k) chapters × FollowOn k (map stretch chapters)

-- a base stands for the last of these chapters, if there is one
abbrev pub StandsBehind : Kind → (before : List Chapter) → Based → Type 0
StandsBehind k before base = (earlier : List Chapter) (last : Chapter) → before ≡ earlier ++ last ∷ []
    → Succeeds k last.base last.records base

-- what is wrong with a chapter behind those of such a place: it's of another one; its base doesn't stand for them; or
-- this record of its own can't stand
abbrev pub IsWrongBehind : Kind → (before : List Chapter) → Chapter → ChapterFault → Type 0
IsWrongBehind k before c OtherPlace = (before ≢ []) × (c.kind ≢ k)
IsWrongBehind k before c OtherBase = (c.kind ≡ k) × (StandsBehind k before c.base → ⊥)
IsWrongBehind k before c (Illegal number why) =
    (c.kind ≡ k) × StandsBehind k before c.base × IsIllegalAt k c.base c.records number why

-- the first chapter that can't follow those before it, by its number from 1, and what is wrong with it
pub record IsBroken (chapters : List Chapter) (number : ℕ) (why : ChapterFault) : Type 0 where
  pub kind : Kind
  pub before : List Chapter
  pub bad : Chapter
  pub after : List Chapter
  pub parts : chapters ≡ before ++ bad ∷ after
  pub number_is : number ≡ length before + 1
  pub one : AreOne kind before
  pub wrong : IsWrongBehind kind before bad why

-- what is wrong with a chapter, in words
unfoldable pub wrong_text : ChapterFault → List ℕ
wrong_text OtherPlace = codes "OtherPlace\n"
wrong_text OtherBase = codes "OtherBase\n"
wrong_text (Illegal number why) = illegal_line number why

-- the line that says so
unfoldable pub broken_line : (number : ℕ) → ChapterFault → List ℕ
broken_line number why = codes "chapter " ++ decimal number ++ codes " " ++ wrong_text why

-- what is found of chapters, and the line that says so: they are one legal history on the first one's base, as one
-- trace of it would be; or the first that can't follow
abbrev pub IsFoundOfAll : List Chapter → (legal : Bool) → (text : List ℕ) → Type 0
IsFoundOfAll chapters true text = (first : Chapter) × (later : List Chapter) × (chapters ≡ first ∷ later)
    × AreOne first.kind chapters × IsVerdictOn first.kind first.base (all_records chapters) true text
IsFoundOfAll chapters false text = (number : ℕ) × (why : ChapterFault) × IsBroken chapters number why
    × (text ≡ broken_line number why)

-- a trace that was read is this chapter's
pub record IsOf (trace : ReadTrace) (c : Chapter) : Type 0 where
  pub kind : trace.kind ≡ c.kind
  pub base : trace.base ≡ c.base
  pub own : trace.checker.place.kind ≡ c.kind
  pub seen : HasSeen c.base trace.checker c.records
  pub counted : trace.count ≡ c.base.gone + length c.records

-- chapters are one legal history so far; the trace that was read is the last one's, and its checker is where one of all
-- of them would be
pub record IsLegalSoFar (trace : ReadTrace) (chapters : List Chapter) : Type 0 where
  pub earlier : List Chapter
  pub last : Chapter
  pub parts : chapters ≡ earlier ++ last ∷ []
  pub of_last : IsOf trace last
  pub sound : trace.checker.fault ≡ None
  pub one : AreOne last.kind chapters
  pub first : Chapter
  pub later : List Chapter
  pub begins : chapters ≡ first ∷ later
  pub whole : HasSeen first.base trace.checker (all_records chapters)

-- these chapters were read, and this is what is known of them
pub record HasRead (chain : Chain) (chapters : List Chapter) : Type 0 where
  pub many : chain.chapters ≡ length chapters
  pub legal : chain.fault ≡ None → IsLegalSoFar chain.last chapters
  pub broken : (number : ℕ) (why : ChapterFault) → chain.fault ≡ Some (record { chapter = number; why = why })
      → IsBroken chapters number why

-- what a checker found, as what is wrong with a chapter
abbrev pub wrong_of : Option CheckFault → Option ChapterFault
wrong_of (Some (IllegalRecord number why)) = Some (Illegal number why)
wrong_of _ = None

-- what is wrong with a trace that was read, behind another one
abbrev pub TellsWrong : (last next : ReadTrace) → Option ChapterFault → Type 0
TellsWrong last next wrong = ((last.kind ≢ next.kind) × (wrong ≡ Some OtherPlace))
    ⊎ ((last.kind ≡ next.kind) × ((ends : Bool) × TellsEnd last.checker next.base ends
    × (wrong ≡ (if ends then wrong_of next.checker.fault else Some OtherBase))))

-- the same as the first chapter that can't follow, by its number
abbrev pub broken_at : (number : ℕ) → Option ChapterFault → Option Broken
broken_at number wrong = option_map (λ why. record { chapter = number; why = why }) wrong
