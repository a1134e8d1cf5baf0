-- One deed in the two tellings: both allow it, or neither does, and it leaves the same in both.
use Rattle.std.proofs.Common.{◌≡◌, ◌≢◌, ◌⊎◌, ◌↔◌, ℕ, suc, zero, ◌<◌, true, false, Contains, Option, Some, None, refl, sym, ap, ◌∙◌, subst, inl, inr, arith, ◌∷◌}
use Rattle.std.proofs.lemmas.Bool.{false≢true}
use Rattle.meet_tickets.specs.declared.lines.Hold.TheVariants.{Handed, Served, Cut}
use Rattle.meet_tickets.specs.declared.places.Side.TheVariants.{Giver, Taker}
use Rattle.meet_tickets.specs.declared.places.Kind.{Kind}
use Rattle.meet_tickets.specs.declared.records.Cause.TheVariants.{Cancelled, Expired, Interrupted}
use Rattle.meet_tickets.specs.declared.records.Deed.{Deed}
use Rattle.meet_tickets.specs.declared.records.Deed.TheVariants.{GiveWaits, GiveMeets, GiveFails, GiveKept, TakeWaits, TakeMeets, TakeFails, EntryInterrupted, Done, Got, Withdrawn, Interrupt}
use Rattle.meet_tickets.specs.ByLists.{State, Pair, IsOpen, IsInLine, IsStep, minus, after}
use Rattle.meet_tickets.specs.BySeat.{Moment, Fits, Allows, moment_after, is_request}
use Rattle.meet_tickets.specs.Agreement.{Holds, Agrees}
use Rattle.meet_tickets.proofs.Tellings.Whereabouts.{Gave, Took, Reached, lined_above_zero, reached_later, reached_join, reached_wait, reached_giving, reached_taking, reached_cut}
use Rattle.meet_tickets.proofs.Tellings.Holding.{only_open, place_in_line, held_handed, held_served, held_cut}
use Rattle.meet_tickets.proofs.Tellings.Deeds.{Told, seats_of, seen, HasEntry, HasNone, entry_cases, free_of, new_of, flag_low, flag_absent, passes_agree, waits_agree, kept_agrees, gives_agree, takes_agree, partner_in_line, ends_agree, ends_reached, leaves_agree, leaves_reached, collects_agree, collects_reached, withdrawn_next, clear_agrees, cut_found, cut_missing, cuts_agree, flags_agree}

-- one deed is told alike
pub record Follows (k : Kind) (s : State) (m : Moment) (i t : ℕ) (d : Deed) : Type 0 where
  pub next : IsStep k s i t d ↔ Fits k m (record { seat = i; ticket = t; deed = d })
  pub reached : IsStep k s i t d → Reached (after s i t d)
  pub agrees : IsStep k s i t d → Agrees (after s i t d) (moment_after k m (record { seat = i; ticket = t; deed = d }))

module _ {s : State} (told : Told s) (k : Kind) (i t : ℕ) where
  -- a request with a new ticket fits where it is allowed
  request_fits : (d : Deed) → s.last < t → Allows k (seats_of told) i t d → Fits k (seen told) (record { seat = i; ticket = t; deed = d })
  request_fits d above allowed = record { above = λ e. above; allowed = allowed }

  -- a deed that is no request fits where it is allowed
  other_fits : (d : Deed) → is_request d ≡ false → Allows k (seats_of told) i t d →
      Fits k (seen told) (record { seat = i; ticket = t; deed = d })
  other_fits d other allowed = record { above = λ e. absurd (false≢true (sym other ∙ e)); allowed = allowed }

  -- a giver that was met learns so
  done_follows : Follows k s (seen told) i t Done
  done_follows = record {
    next = (
      λ z. other_fits Done refl (z.1.0.taker, z.1.0.mark, handed z.0 z.1),
      λ q. back q.allowed.0 q.allowed.1 (subst (Holds s i) q.allowed.2 (told.holds i)),
    );
    reached = λ z. ends_reached told t (λ e. let there = gave z.1 in cc);
    agrees = λ z. ends_agree told i t z.0;
  }
    where
      gave : (w : (p : Pair) × Contains s.pairs p × (p.giver ≡ t)) → told.reached.place t ≡ Gave w.0.taker w.0.mark
      gave w = ap told.reached.place (sym w.2) ∙ told.reached.placed.gave w.0 w.1

      handed : IsOpen s i t → (w : (p : Pair) × Contains s.pairs p × (p.giver ≡ t)) → told.held i ≡ Handed t w.0.taker w.0.mark
      handed o w = held_handed s told.reached i t w.0.taker w.0.mark (told.held i) (told.holds i) o (gave w)

      back : (u mark : ℕ) → Holds s i (Handed t u mark) → IsOpen s i t × ((p : Pair) × Contains s.pairs p × (p.giver ≡ t))
      back u mark h = (h.0.opened, (record { giver = t; taker = u; mark = mark }, h.1, refl))

  -- a taker that was met collects the item
  got_follows : (m u : ℕ) → Follows k s (seen told) i t (Got m u)
  got_follows m u = record {
    next = (
      λ z. other_fits (Got m u) refl (held_served s told.reached i t u m (told.held i) (told.holds i) z.0 (took z.1)),
      λ q. back (subst (Holds s i) q.allowed (told.holds i)),
    );
    reached = λ z. ends_reached told t (λ e. let there = took z.1 in cc);
    agrees = λ z. ends_agree told i t z.0;
  }
    where
      pair : Pair
      pair = record { giver = u; taker = t; mark = m }

      took : Contains s.pairs pair → told.reached.place t ≡ Took u m
      took w = told.reached.placed.took pair w

      back : Holds s i (Served t u m) → IsOpen s i t × Contains s.pairs pair
      back h = (h.0.opened, h.1)

  -- a ticket that was cut is collected
  cut_follows : Follows k s (seen told) i t (Withdrawn Interrupted)
  cut_follows = record {
    next = (
      λ z. other_fits (Withdrawn Interrupted) refl (held_cut s told.reached i t (told.held i) (told.holds i) z.0 (told.reached.placed.cuts t z.1)),
      λ q. back q.allowed.0 (subst (Holds s i) q.allowed.1 (told.holds i)),
    );
    reached = λ z. collects_reached told t (λ e. let there = told.reached.placed.cuts t z.1 in cc);
    agrees = λ z. collects_agree told i t z.0;
  }
    where
      back : (item : Option ℕ) → Holds s i (Cut t item) → IsOpen s i t × Contains s.cut t
      back item h = (h.0.opened, h.1)

-- an interrupt is told alike, by its ticket and by what the target holds
interrupt_follows : {s : State} (told : Told s) (k : Kind) (i t j : ℕ) → HasEntry s j (told.held j) ⊎ HasNone s j (told.held j) →
    Follows k s (seen told) i t (Interrupt j)
interrupt_follows {s} told k i zero j (inl c) = record {
  next = (λ n. absurd (refused n), λ q. absurd (above (sym (cut_found told j c) ∙ sym q.allowed)));
  reached = λ n. absurd (refused n);
  agrees = λ n. absurd (refused n);
}
  where
    above : c.entry.ticket ≢ 0
    above = lined_above_zero told.reached.placed c.entry.ticket (place_in_line s told.reached c.entry.ticket c.lined)

    refused : ((u : ℕ) → IsOpen s j u → IsInLine s u → ⊥) → ⊥
    refused n = n c.entry.ticket c.opened c.lined
interrupt_follows {s} told k i zero j (inr c) = record {
  next = (λ n. other_fits told k i 0 (Interrupt j) refl (sym (cut_missing told j c)), λ q. c.none);
  reached = λ n. reached_later s s.last (j ∷ s.flags) told.reached (omega arith);
  agrees = λ n. flags_agree told j c;
}
interrupt_follows {s} told k i (suc t) j (inl c) = record {
  next = (
    λ z. other_fits told k i (suc t) (Interrupt j) refl (sym (cut_found told j c ∙ same z.0)),
    λ q. back (sym (cut_found told j c) ∙ sym q.allowed),
  );
  reached = λ z. reached_cut s (suc t) told.reached (place_in_line s told.reached (suc t) z.1);
  agrees = λ z. cuts_agree told j (suc t) c (same z.0);
}
  where
    same : IsOpen s j (suc t) → c.entry.ticket ≡ suc t
    same o = (only_open s j (suc t) (told.held j) (told.holds j) o).only c.entry.ticket c.opened

    back : c.entry.ticket ≡ suc t → IsOpen s j (suc t) × IsInLine s (suc t)
    back e = (subst (IsOpen s j) e c.opened, subst (IsInLine s) e c.lined)
interrupt_follows {s} told k i (suc t) j (inr c) = record {
  next = (λ z. absurd (c.none (suc t) z.0 z.1), λ q. let e : suc t ≡ 0 = q.allowed ∙ cut_missing told j c in absurd (omega arith));
  reached = λ z. absurd (c.none (suc t) z.0 z.1);
  agrees = λ z. absurd (c.none (suc t) z.0 z.1);
}

-- each deed is told alike
pub follows : {s : State} (told : Told s) (k : Kind) (i t : ℕ) (d : Deed) → Follows k s (seen told) i t d
follows {s} told k i t (GiveWaits m) = record {
  next = (
    λ z. request_fits told k i t (GiveWaits m) z.0.above (free_of told i t z.0, z.1, flag_low told i z.2),
    λ q. (new_of told i t (q.above refl) q.allowed.0, q.allowed.1, flag_absent told i q.allowed.2),
  );
  reached = λ z. reached_wait s (record { ticket = t; seat = i; item = Some m; waits = true }) told.reached z.0.above refl;
  agrees = λ z. waits_agree told i t (Some m) z.0;
}
follows {s} told k i t (GiveMeets m u) = record {
  next = (
    λ z. request_fits told k i t (GiveMeets m u) z.0.above (free_of told i t z.0, z.1),
    λ q. (new_of told i t (q.above refl) q.allowed.0, q.allowed.1),
  );
  reached = λ z. reached_giving s t u m told.reached z.0.above (partner_in_line told k Giver u None z.1);
  agrees = λ z. gives_agree told k t m u z.1;
}
follows {s} told k i t (GiveFails m) = record {
  next = (
    λ z. request_fits told k i t (GiveFails m) z.0.above (free_of told i t z.0, z.1),
    λ q. (new_of told i t (q.above refl) q.allowed.0, q.allowed.1),
  );
  reached = λ z. reached_later s t s.flags told.reached (let above = z.0.above in omega arith);
  agrees = λ z. passes_agree told t;
}
follows {s} told k i t (GiveKept m) = record {
  next = (
    λ z. request_fits told k i t (GiveKept m) z.0.above (free_of told i t z.0, z.1, z.2),
    λ q. (new_of told i t (q.above refl) q.allowed.0, q.allowed.1, q.allowed.2),
  );
  reached = λ z. reached_join s (record { ticket = t; seat = i; item = Some m; waits = false }) told.reached z.0.above refl;
  agrees = λ z. kept_agrees told i t (Some m);
}
follows {s} told k i t TakeWaits = record {
  next = (
    λ z. request_fits told k i t TakeWaits z.0.above (free_of told i t z.0, z.1, flag_low told i z.2),
    λ q. (new_of told i t (q.above refl) q.allowed.0, q.allowed.1, flag_absent told i q.allowed.2),
  );
  reached = λ z. reached_wait s (record { ticket = t; seat = i; item = None; waits = true }) told.reached z.0.above refl;
  agrees = λ z. waits_agree told i t None z.0;
}
follows {s} told k i t (TakeMeets m u) = record {
  next = (
    λ z. request_fits told k i t (TakeMeets m u) z.0.above (free_of told i t z.0, z.1),
    λ q. (new_of told i t (q.above refl) q.allowed.0, q.allowed.1),
  );
  reached = λ z. reached_taking s t u m told.reached z.0.above (partner_in_line told k Taker u (Some m) z.1);
  agrees = λ z. takes_agree told k t m u z.1;
}
follows {s} told k i t TakeFails = record {
  next = (
    λ z. request_fits told k i t TakeFails z.0.above (free_of told i t z.0, z.1),
    λ q. (new_of told i t (q.above refl) q.allowed.0, q.allowed.1),
  );
  reached = λ z. reached_later s t s.flags told.reached (let above = z.0.above in omega arith);
  agrees = λ z. passes_agree told t;
}
follows {s} told k i t (EntryInterrupted side) = record {
  next = (
    λ z. request_fits told k i t (EntryInterrupted side) z.0.above (free_of told i t z.0, z.1, (told.flags i).1 z.2),
    λ q. (new_of told i t (q.above refl) q.allowed.0, q.allowed.1, (told.flags i).0 q.allowed.2),
  );
  reached = λ z. reached_later s t (minus i s.flags) told.reached (let above = z.0.above in omega arith);
  agrees = λ z. clear_agrees told i t;
}
follows told k i t Done = done_follows told k i t
follows told k i t (Got m u) = got_follows told k i t m u
follows told k i t (Withdrawn Cancelled) = record {
  next = (
    λ z. other_fits told k i t (Withdrawn Cancelled) refl ((withdrawn_next told i t).0 z),
    λ q. (withdrawn_next told i t).1 q.allowed,
  );
  reached = λ z. leaves_reached told t;
  agrees = λ z. leaves_agree told i t z.0;
}
follows told k i t (Withdrawn Expired) = record {
  next = (λ z. other_fits told k i t (Withdrawn Expired) refl ((withdrawn_next told i t).0 z), λ q. (withdrawn_next told i t).1 q.allowed);
  reached = λ z. leaves_reached told t;
  agrees = λ z. leaves_agree told i t z.0;
}
follows told k i t (Withdrawn Interrupted) = cut_follows told k i t
follows {s} told k i t (Interrupt j) = interrupt_follows told k i t j (entry_cases s told.reached j (told.held j) (told.holds j))
