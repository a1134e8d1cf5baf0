-- The one spelling of a call, and the spellings of a place.
use Rattle.std.specs.Prelude.{◌≡◌, ◌↔◌, ℕ, ◌^◌, ◌<◌, IsTrue, Option, Some, None, ⊤, List, [], ◌∷◌, ◌++◌, codes, decimal}
use Rattle.meet_tickets.specs.declared.places.Order.{Order}
use Rattle.meet_tickets.specs.declared.places.Order.TheVariants.{Fair, Unfair, Transfer}
use Rattle.meet_tickets.specs.Limits.{most_seats}
use Rattle.meet_history.specs.declared.one_thread.verbs.Call.{Call}
use Rattle.meet_history.specs.declared.one_thread.verbs.Verb.{Verb}
use Rattle.meet_history.specs.declared.one_thread.verbs.Verb.TheVariants.{Put, Offer, Take, Poll}
use Rattle.meet_history.specs.declared.one_thread.verbs.Verb.TheVariants.{Transfer as TransferItem, Try, Follow}
use Rattle.meet_history.specs.declared.one_thread.verbs.Verb.TheVariants.{Cancel, Expire, Interrupt, Drain, Look}
use Rattle.meet_history.specs.declared.one_thread.verbs.Verb.TheVariants.{Checkpoint}
use Rattle.meet_history.specs.declared.one_thread.verbs.Probe.TheVariants.{Size, Room, Peek, Consumers}
use Rattle.meet_run.specs.declared.script.first_line.Options.{Options}
use Rattle.meet_history.specs.declared.one_thread.setup.Setup.{Setup}
use Rattle.meet_history.specs.Served.{serves}
use Rattle.meet_history.specs.Limits.{IsInLimits}
use Rattle.meet_run.specs.Scripts.Grammar.{setup_with, call_of, setup_of}

-- a verb's word, and its number
abbrev pub verb_text : Verb → List ℕ
verb_text (Put n) = codes "put " ++ decimal n
verb_text (Offer n) = codes "offer " ++ decimal n
verb_text Take = codes "take"
verb_text Poll = codes "poll"
verb_text (TransferItem n) = codes "transfer " ++ decimal n
verb_text (Try n) = codes "try " ++ decimal n
verb_text Follow = codes "follow"
verb_text Cancel = codes "cancel"
verb_text Expire = codes "expire"
verb_text (Interrupt target) = codes "interrupt " ++ decimal target
verb_text (Drain most) = codes "drain " ++ decimal most
verb_text (Look Size) = codes "size"
verb_text (Look Room) = codes "room"
verb_text (Look Peek) = codes "peek"
verb_text (Look Consumers) = codes "consumers"
verb_text Checkpoint = codes "checkpoint"

-- the one spelling of a call: its seat and its verb
abbrev pub spelling : Call → List ℕ
spelling call = decimal call.seat ++ 32 ∷ verb_text call.verb

-- a verb's number is in its limits
abbrev pub FitsVerb : Verb → Type 0
FitsVerb (Put n) = n < 2 ^ 64
FitsVerb (Offer n) = n < 2 ^ 64
FitsVerb Take = ⊤
FitsVerb Poll = ⊤
FitsVerb (TransferItem n) = n < 2 ^ 64
FitsVerb (Try n) = n < 2 ^ 64
FitsVerb Follow = ⊤
FitsVerb Cancel = ⊤
FitsVerb Expire = ⊤
FitsVerb (Interrupt target) = target < most_seats
FitsVerb (Drain most) = most < 2 ^ 64
FitsVerb (Look probe) = ⊤
FitsVerb Checkpoint = ⊤

-- a call has its numbers in their limits, and the place serves its verb
pub record FitsCall (order : Order) (call : Call) : Type 0 where
  pub seat : call.seat < most_seats
  pub verb : FitsVerb call.verb
  pub served : IsTrue (serves order call.verb)

-- a line reads as a call exactly where it is that call's one spelling
abbrev pub CallsHaveOneSpelling : Type 0
CallsHaveOneSpelling =
    (order : Order) (line : List ℕ) (call : Call)
    → (call_of order line ≡ Some call) ↔ ((line ≡ spelling call) × FitsCall order call)

-- a place's word
abbrev pub place_text : Order → List ℕ
place_text Fair = codes "fair"
place_text Unfair = codes "unfair"
place_text Transfer = codes "transfer"

-- an option that is spelled out, by its name with a space on either side; or nothing
abbrev pub option_text : (name : List ℕ) → Option ℕ → List ℕ
option_text name None = []
option_text name (Some n) = name ++ decimal n

-- the options that are spelled out, in their order
abbrev pub written_text : Options → List ℕ
written_text written =
    option_text (codes " seats ") written.seats
    ++ (option_text (codes " cap ") written.cap
    ++ (option_text (codes " first ") written.first ++ option_text (codes " bound ") written.bound))

-- a line spells a place: its word, and its options, where those at their default may be left out
abbrev pub SpellsSetup : (line : List ℕ) → Setup → Type 0
SpellsSetup line setup =
    (written : Options) × (line ≡ place_text setup.kind.order ++ written_text written)
    × (setup ≡ setup_with setup.kind.order written)

-- a first line reads as a place exactly where it spells it, with its numbers in their limits
abbrev pub SetupsAreSpelled : Type 0
SetupsAreSpelled =
    (line : List ℕ) (setup : Setup) → (setup_of line ≡ Some setup) ↔ (SpellsSetup line setup × IsInLimits setup)
