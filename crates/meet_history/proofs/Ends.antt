-- What a checked place gives is the base of its moment, and the base of what was pushed is one.
use Rattle.std.proofs.Common.{◌≡◌, ℕ, ◌+◌, refl, sym, ap, ◌∙◌, subst, Bool, None, List, [], ◌∷◌, length, map, IsPermutation}
use Rattle.std.specs.Prelude.{◌↔◌, IsTrue}
use Rattle.std.specs.List.Sorted.{IsNonDecreasingBy}
use Rattle.std.proofs.lemmas.Iterator.Adapters.{option_map_id}
use Rattle.meet_tickets.specs.declared.lines.Entry.{Entry}
use Rattle.meet_tickets.specs.declared.lines.Hold.{Hold}
use Rattle.meet_tickets.specs.declared.lines.Hold.TheVariants.{Free, Waiting, Handed, Served, Cut}
use Rattle.meet_tickets.specs.declared.bases.OpenPair.{OpenPair}
use Rattle.meet_tickets.specs.declared.bases.OpenCut.{OpenCut}
use Rattle.meet_tickets.specs.Bases.{Based, moment_of_base, IsBaseOf, IsWellFormed}
use Rattle.meet_tickets.specs.BySeat.{Moment, moment_of}
use Rattle.meet_tickets.proofs.OnBases.Folded.{folds}
use Rattle.meet_tickets.proofs.OnBases.Unique.{same_base}
use Rattle.meet_core.specs.Queue.{Queue}
use Rattle.meet_line.specs.Seen.{marked_entry}
use Rattle.meet_core.specs.Seen.{marked_hold, moment_of_queue}
use Rattle.meet_core.specs.Opened.{pair_at, cut_at, flagged_at, gathered}
use Rattle.meet_core.proofs.BaseOfQueue.{stands_so}
use Rattle.meet_history.specs.Checking.{Checked, moment_at}
use Rattle.meet_history.specs.Pushing.{Progress, HasTaken, SeenWith, TellsEnd}

-- a mark is its own mark
own-entry : (e : Entry ℕ) → marked_entry (λ m. m) e ≡ e
own-entry e = λ i. record { ticket = e.ticket; seat = e.seat; item = option_map_id e.item i; waits = e.waits }

own-line : (line : List (Entry ℕ)) → map (marked_entry (λ m. m)) line ≡ line
own-line [] = refl
own-line (e ∷ line) = λ i. own-entry e i ∷ own-line line i

own-hold : (hold : Hold ℕ) → marked_hold (λ m. m) hold ≡ hold
own-hold Free = refl
own-hold (Waiting t) = refl
own-hold (Handed t u mark) = refl
own-hold (Served t u mark) = refl
own-hold (Cut t item) = ap (λ o. Cut t o) (option_map_id item)

-- what the line and the table of a checked place give is the base of its moment
pub stands-checked : (p : Checked) (gone : ℕ) (b : Based) → b.gone ≡ gone → b.last ≡ p.last → b.line ≡ p.line
    → IsPermutation (gathered (pair_at (λ m. m) p.table) (length p.table.holds)) b.pairs → IsNonDecreasingBy (λ (q : OpenPair). q.ticket) b.pairs
    → IsPermutation (gathered (cut_at (λ m. m) p.table) (length p.table.holds)) b.cut → IsNonDecreasingBy (λ (c : OpenCut). c.ticket) b.cut
    → b.flags ≡ gathered (flagged_at p.table) (length p.table.holds) → length p.table.flags ≡ length p.table.holds → IsBaseOf (moment_at p) gone b
stands-checked p gone b gone_is last line pairs pairs_rise cut cut_rises flags long =
    let q : Queue ℕ = record { line = p.line; room = p.room; table = p.table; last = p.last; next = 0 } in
    let seats = (moment_at p).seats in
    let same : moment_of_queue (λ m. m) q ≡ moment_at p = λ i. record { last = p.last; seats = record { line = own-line p.line i; holds = λ seat. own-hold (seats.holds seat) i; flags = seats.flags } } in
    subst (λ m. IsBaseOf m gone b) same (stands_so (λ m. m) q gone b gone_is last (line ∙ sym (own-line p.line)) pairs pairs_rise cut cut_rises flags long)

-- the base of where a checker is stands for what was pushed, and no other one does
pub end-told : (p : Progress) (own next : Based) (ends : Bool) → p.fault ≡ None → IsBaseOf (moment_at p.place) p.count own → IsTrue ends ↔ (own ≡ next) → TellsEnd p next ends
end-told p own next ends sound is told base past seen =
    let k = p.place.kind in
    let taken : HasTaken base p past = subst (λ f. SeenWith base f p past) sound seen.1 in
    let m : Moment = moment_of k (moment_of_base base) past in
    let n : ℕ = base.gone + length past in
    let here : IsBaseOf m n own = subst (λ q. IsBaseOf q n own) taken.moment (subst (λ c. IsBaseOf (moment_at p.place) c own) taken.count is) in
    let formed : (b : Based) → IsBaseOf m n b → IsWellFormed k b = λ b of. (folds k base past n b seen.0 taken.legal of).well_formed in (
      λ yes. subst (IsBaseOf m n) (told.0 yes) here,
      λ of. told.1 (same_base k m n own next here of (formed own here) (formed next of)),
    )
