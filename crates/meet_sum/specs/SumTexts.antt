-- The text of sums, a fact a line (our choice).
use Rattle.std.specs.Prelude.{ℕ, ◌+◌, Option, Some, None, List, [], ◌∷◌, ◌++◌, codes, decimal, if◌then◌else◌}
use Rattle.meet_sum.specs.declared.deeds.DeedCounts.{DeedCounts}
use Rattle.meet_sum.specs.declared.fates.FateCounts.{FateCounts}
use Rattle.meet_sum.specs.declared.line.LongestLine.{LongestLine}
use Rattle.meet_sum.specs.declared.seats.SeatSum.{SeatSum}
use Rattle.meet_sum.specs.declared.sums.Sums.{Sums}
use Rattle.meet_sum.specs.declared.waits.Wait.{Wait}

-- a number behind a word
unfoldable pub count_line : (word : List ℕ) → ℕ → List ℕ
count_line word n = word ++ decimal n ++ codes "\n"

-- the numbers of deeds: of givers and of takers that ask, of entries that were refused, and of the others
unfoldable pub give_deeds_text : DeedCounts → List ℕ
give_deeds_text c = count_line (codes "deed give-waits ") c.give_waits
    ++ count_line (codes "deed give-meets ") c.give_meets
    ++ count_line (codes "deed give-fails ") c.give_fails
    ++ count_line (codes "deed give-kept ") c.give_kept

unfoldable pub take_deeds_text : DeedCounts → List ℕ
take_deeds_text c = count_line (codes "deed take-waits ") c.take_waits
    ++ count_line (codes "deed take-meets ") c.take_meets
    ++ count_line (codes "deed take-fails ") c.take_fails
    ++ count_line (codes "deed entry-interrupted ") c.entry_interrupted

unfoldable pub end_deeds_text : DeedCounts → List ℕ
end_deeds_text c = count_line (codes "deed done ") c.done
    ++ count_line (codes "deed got ") c.got
    ++ count_line (codes "deed withdrawn ") c.withdrawn
    ++ count_line (codes "deed interrupt ") c.interrupt

-- the numbers of fates: of tickets that stand in the line or met somebody, that were taken back, and of the others
unfoldable pub open_fates_text : FateCounts → List ℕ
open_fates_text c = count_line (codes "fate waiting ") c.waiting
    ++ count_line (codes "fate kept ") c.kept
    ++ count_line (codes "fate paired ") c.paired
    ++ count_line (codes "fate collected ") c.collected

unfoldable pub ended_fates_text : FateCounts → List ℕ
ended_fates_text c = count_line (codes "fate cancelled ") c.cancelled
    ++ count_line (codes "fate expired ") c.expired
    ++ count_line (codes "fate interrupted ") c.interrupted

unfoldable pub other_fates_text : FateCounts → List ℕ
other_fates_text c = count_line (codes "fate cut ") c.cut
    ++ count_line (codes "fate failed ") c.failed
    ++ count_line (codes "fate entry-refused ") c.entry_refused

-- the most entries of the line, and behind which record there were so many first
unfoldable pub longest_line_text : LongestLine → List ℕ
longest_line_text l = codes "longest line " ++ decimal l.entries ++ codes " behind " ++ decimal l.behind ++ codes "\n"

-- the longest wait, and whose it was
unfoldable pub waited_text : (records ticket seat : ℕ) → List ℕ
waited_text records ticket seat =
    codes "longest wait " ++ decimal records ++ codes " ticket " ++ decimal ticket ++ (codes " seat " ++ decimal seat)
    ++ codes "\n"

unfoldable pub wait_text : Option Wait → List ℕ
wait_text None = codes "longest wait none\n"
wait_text (Some w) = waited_text w.records w.ticket w.seat

-- how long a seat waited at most, if it did
unfoldable pub stay_text : Option ℕ → List ℕ
stay_text None = codes " wait none\n"
stay_text (Some n) = codes " wait " ++ decimal n ++ codes "\n"

-- what the seat of this number did, if it is there
unfoldable pub seat_text : ℕ → SeatSum → List ℕ
seat_text seat s =
    if s.present
    then codes "seat " ++ decimal seat ++ codes " records " ++ decimal s.records ++ codes " requests "
    ++ decimal s.requests ++ stay_text s.wait
    else []

-- what seats did, of which the first has this number
unfoldable pub seats_text : ℕ → List SeatSum → List ℕ
seats_text seat [] = []
seats_text seat (s ∷ sums) = seat_text seat s ++ seats_text (seat + 1) sums

-- all of it
unfoldable pub sums_text : Sums → List ℕ
sums_text s =
    give_deeds_text s.deeds ++ take_deeds_text s.deeds ++ end_deeds_text s.deeds
    ++ open_fates_text s.fates ++ ended_fates_text s.fates ++ other_fates_text s.fates
    ++ longest_line_text s.line ++ wait_text s.wait ++ seats_text 0 s.seats.items
