-- What one thread's records tell: they are legal, leave the place as its calls do, and say what stands there.
use Rattle.std.proofs.Common.{◌≡◌, ◌<◌, sym, ap, ◌∙◌, List}
use Rattle.meet_tickets.specs.ByLists.{IsLegal}
use Rattle.meet_tickets.specs.BySeat.{beginning, moment_of}
use Rattle.meet_tickets.proofs.Tellings.Histories.{tellings_are_one}
use Rattle.meet_tickets.proofs.Told.Standings.{StandsAs, stands_as}
use Rattle.meet_history.specs.declared.one_thread.verbs.Call.{Call}
use Rattle.meet_history.specs.declared.one_thread.setup.Setup.{Setup}
use Rattle.meet_history.specs.OneThread.{start, turns, records, standing_at}
use Rattle.meet_history.specs.Standings.{IsRecorded}
use Rattle.meet_history.proofs.Kept.{standings-same}
use Rattle.meet_history.proofs.LegalTurns.{IsLegalTurn, all_legal}

-- what one thread's records tell
pub is_recorded : (setup : Setup) (calls : List Call) → 0 < setup.first → IsRecorded setup calls
is_recorded setup calls first =
    let all : IsLegalTurn setup 0 (start setup) (turns setup (start setup) calls) = all_legal setup calls first in
    let legal : IsLegal setup.kind (records setup calls) = (tellings_are_one setup.kind (records setup calls)).legal.1 all.legal in
    let leaves : (moment_of setup.kind beginning (records setup calls)).seats ≡ (turns setup (start setup) calls).place.seats = ap (λ m. m.seats) all.leads in
    let stands : StandsAs setup.kind (records setup calls) setup.seats = stands_as setup.kind (records setup calls) setup.seats legal (λ j above. ap (λ s. s.holds j) leaves ∙ all.ready.within.beyond j above) in
    record {
      legal = legal;
      leaves = leaves;
      standing = ap (standing_at setup.seats) (sym leaves) ∙ standings-same (sym stands.waiting) (sym stands.uncollected) (sym stands.kept);
    }
