-- If a call was met though one of its side, whose turn came first, waited all the time, no history explains the calls.
use Rattle.std.proofs.Common.{ℕ, ◌⊎◌, inl, inr, List, refl, ⊎_elim}
use Rattle.meet_tickets.specs.declared.places.Kind.{Kind}
use Rattle.meet_tickets.specs.declared.records.Record.{Record}
use Rattle.meet_tickets.specs.declared.records.Deed.{Deed}
use Rattle.meet_overlap.specs.declared.calls.Answer.{Answer}
use Rattle.meet_overlap.specs.declared.calls.Answer.TheVariants.{Went, Got as GotItem}
use Rattle.meet_overlap.specs.declared.calls.Call.{Call}
use Rattle.meet_overlap.specs.declared.calls.Verb.{Verb}
use Rattle.meet_overlap.specs.declared.calls.Verb.TheVariants.{Keep, Give, Take}
use Rattle.meet_overlap.specs.Explaining.{Explains}
use Rattle.meet_overlap.specs.Reasons.{IsPassed, Meets}
use Rattle.meet_overlap.proofs.PassedGivers.{IsGiverMet, giver_passed}
use Rattle.meet_overlap.proofs.PassedTakers.{IsTakerMet, taker_passed}

-- which of the two gives
sides : (caller : Verb) (answer : Answer) (met : Verb) (other : Answer) (waiting : Verb) (mark : ℕ) → Meets caller answer met other waiting mark → IsGiverMet caller answer met waiting mark ⊎ IsTakerMet caller answer met other waiting mark
sides (Take p) (GotItem n) met other (Give q x) mark meets = inl (record { takes = tt; got = let same = meets.0 in cc; gives = meets.1; item = x; holds = refl; apart = λ taking. taking })
sides (Give p n) Went (Take q) (GotItem x) (Take r) mark meets = inr (record { gives = meets.0; went = refl; takes = tt; got = let same = meets.1 in cc; none = refl; taking = tt })
sides (Keep n) Went (Take q) (GotItem x) (Take r) mark meets = inr (record { gives = meets.0; went = refl; takes = tt; got = let same = meets.1 in cc; none = refl; taking = tt })
sides caller answer met other waiting mark meets = absurd meets

pub passed_explains : (k : Kind) (calls : List Call) → IsPassed k calls → (history : List (Record Deed)) → Explains k calls history → ⊥
passed_explains k calls u = ⊎_elim
    (λ g. giver_passed k calls u g)
    (λ g. taker_passed k calls u g)
    (sides u.caller.call.verb u.caller.returned.answer u.met.call.verb u.met.returned.answer u.waiting.call.verb u.mark u.meets)
