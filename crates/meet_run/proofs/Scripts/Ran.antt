-- A run of calls, line by line: what it wrote, and what is left.
use Rattle.std.proofs.Common.{◌≡◌, ◌⊎◌, inl, inr, ℕ, ◌+◌, List, [], ◌∷◌, ◌++◌, Option, Some, None, Ok, Err, Bool, true, refl, sym, ap, ◌∙◌, subst, append-nil}
use Rattle.std.specs.Prelude.{IfSome, Result}
use Rattle.std.specs.Io.KnownBytes.{Appends}
use Rattle.meet_tickets.specs.declared.refusals.Refusal.{Refusal}
use Rattle.meet_tickets.specs.declared.refusals.Refusal.TheVariants.{Memory, BadLine, WriteFault}
use Rattle.meet_history.specs.declared.one_thread.verbs.Call.{Call}
use Rattle.meet_run.specs.declared.text.faults.RunFault.{RunFault}
use Rattle.meet_history.specs.declared.one_thread.setup.Setup.{Setup}
use Rattle.meet_history.specs.OneThread.{Place, start, turn, standing_of}
use Rattle.meet_run.specs.Scripts.Grammar.{call_of, setup_of}
use Rattle.meet_run.specs.Texts.Reading.{lines_of, Both}
use Rattle.meet_run.specs.Scripts.Running.{RunEnds, RunsOn}
use Rattle.meet_run.specs.Scripts.Script.{Reached, replies_text, fault_of, text_before, output_of}
use Rattle.meet_run.specs.Scripts.Wording.{last_line}
use Rattle.meet_run.specs.Texts.Writing.{AppendsPrefix, IsPrefix}
use Rattle.meet_run.proofs.Texts.WritingLemmas.{appends-more, prefix-of, prefix-more}
use Rattle.meet_run.proofs.Scripts.Reached.{Ended, EndedAtFault, reached-first, reached-more, reached-prefix, replies-next, reached-end, reached-fault, fault-at-first, fault-without-line}

-- whatever the first line was, the run has come this far
abbrev pub CameFrom : Setup → (first rest : List ℕ) → (read : ℕ) → Place → (written : List ℕ) → Type 0
CameFrom setup first rest read place written =
    (input : List ℕ) → Reached setup input first 2 (start setup) [] → Reached setup input rest (read + 1) place written

-- so many lines were read, and this was written
pub record Ran (setup : Setup) (reader_old reader_new writer_old writer_new : Option (List ℕ)) (read : ℕ) (place : Place) : Type 0 where
  pub written : List ℕ
  pub wrote : Appends writer_old writer_new written
  pub came : Both reader_old reader_new (λ first rest. CameFrom setup first rest read place written)

-- nothing was read or written so far
pub appends-nothing : (w : Option (List ℕ)) → Appends w w []
appends-nothing None = tt
appends-nothing (Some xs) = sym (append-nil xs)

pub ran-none : (setup : Setup) (reader writer : Option (List ℕ)) (place : Place) → place ≡ start setup → Ran setup reader reader writer writer 1 place
ran-none setup reader writer place is = record {
  written = [];
  wrote = appends-nothing writer;
  came = same reader;
}
  where
    same : (r : Option (List ℕ)) → Both r r (λ first rest. CameFrom setup first rest 1 place [])
    same None = tt
    same (Some xs) = λ input h. subst (λ p. Reached setup input xs 2 p []) (sym is) h

module _ (setup : Setup) (old mid : Option (List ℕ)) (before now : Option (List ℕ)) (read : ℕ) (place : Place) (ran : Ran setup old mid before now read place) where
  -- a call was read and its replies were written
  pub ran-more : (new after : Option (List ℕ)) (call : Call) (later : Place) → Both mid new (λ xs ys. (line : List ℕ) × (lines_of xs ≡ line ∷ lines_of ys) × (call_of setup.kind.order line ≡ Some call)) → Appends now after (replies_text (turn setup place call).replies) → later ≡ (turn setup place call).place → Ran setup old new before after (read + 1) later
  ran-more new after call later next wrote is = record {
    written = ran.written ++ replies_text (turn setup place call).replies;
    wrote = appends-more before now after ran.written (replies_text (turn setup place call).replies) ran.wrote wrote;
    came = along old mid new ran.came next;
  }
    where
      along : (o m n : Option (List ℕ)) → Both o m (λ first rest. CameFrom setup first rest read place ran.written) → Both m n (λ xs ys. (line : List ℕ) × (lines_of xs ≡ line ∷ lines_of ys) × (call_of setup.kind.order line ≡ Some call)) → Both o n (λ first rest. CameFrom setup first rest (read + 1) later (ran.written ++ replies_text (turn setup place call).replies))
      along None m n came next = tt
      along (Some xs) None n came next = absurd came
      along (Some xs) (Some ys) None came next = absurd next
      along (Some xs) (Some ys) (Some zs) came next = λ input h. subst (λ p. Reached setup input zs (read + 1 + 1) p (ran.written ++ replies_text (turn setup place call).replies)) (sym is) (reached-more setup input ys (read + 1) place ran.written next.0 zs call (came input h) next.1 next.2)

  -- what is known of the whole, at a known rest
  at_rest : (P : (input : List ℕ) → Type 0) (o m : Option (List ℕ)) → Both o m (λ first rest. CameFrom setup first rest read place ran.written) → IfSome m (λ rest. (input : List ℕ) → Reached setup input rest (read + 1) place ran.written → P input) → IfSome o (λ first. (input : List ℕ) → Reached setup input first 2 (start setup) [] → P input)
  at_rest P None m came rest = tt
  at_rest P (Some xs) None came rest = absurd came
  at_rest P (Some xs) (Some ys) came rest = λ input h. rest input (came input h)

  -- a read failed
  pub ran-broken : IfSome old (λ first. (input : List ℕ) → Reached setup input first 2 (start setup) [] → AppendsPrefix before now (text_before input))
  ran-broken = at_rest (λ input. AppendsPrefix before now (text_before input)) old mid ran.came (known mid)
    where
      known : (m : Option (List ℕ)) → IfSome m (λ rest. (input : List ℕ) → Reached setup input rest (read + 1) place ran.written → AppendsPrefix before now (text_before input))
      known None = tt
      known (Some ys) = λ input h. prefix-of before now ran.written (text_before input) ran.wrote (reached-prefix setup input ys (read + 1) place ran.written h).0

  -- the next line is no call
  pub ran-faulty : IfSome mid (λ xs. (line : List ℕ) × (lines : List (List ℕ)) × (lines_of xs ≡ line ∷ lines) × (call_of setup.kind.order line ≡ None)) → IfSome old (λ first. (input : List ℕ) → Reached setup input first 2 (start setup) [] → (fault_of input ≡ Some (read + 1)) × Appends before now (output_of input))
  ran-faulty faulty = at_rest (λ input. (fault_of input ≡ Some (read + 1)) × Appends before now (output_of input)) old mid ran.came (known mid faulty)
    where
      known : (m : Option (List ℕ)) → IfSome m (λ xs. (line : List ℕ) × (lines : List (List ℕ)) × (lines_of xs ≡ line ∷ lines) × (call_of setup.kind.order line ≡ None)) → IfSome m (λ rest. (input : List ℕ) → Reached setup input rest (read + 1) place ran.written → (fault_of input ≡ Some (read + 1)) × Appends before now (output_of input))
      known None faulty = tt
      known (Some ys) faulty = λ input h. (let ended : EndedAtFault input (read + 1) ran.written = reached-fault setup input ys (read + 1) place ran.written faulty.0 faulty.1 h faulty.2 faulty.3 in (ended.fault, subst (λ t. Appends before now t) (sym ended.output) ran.wrote))

  -- a call was read, and only a prefix of its replies was written
  pub ran-cut : (new after : Option (List ℕ)) (call : Call) → Both mid new (λ xs ys. (line : List ℕ) × (lines_of xs ≡ line ∷ lines_of ys) × (call_of setup.kind.order line ≡ Some call)) → AppendsPrefix now after (replies_text (turn setup place call).replies) → IfSome old (λ first. (input : List ℕ) → Reached setup input first 2 (start setup) [] → AppendsPrefix before after (text_before input) × AppendsPrefix before after (output_of input))
  ran-cut new after call next prefix = at_rest (λ input. AppendsPrefix before after (text_before input) × AppendsPrefix before after (output_of input)) old mid ran.came (known mid new next)
    where
      known : (m n : Option (List ℕ)) → Both m n (λ xs ys. (line : List ℕ) × (lines_of xs ≡ line ∷ lines_of ys) × (call_of setup.kind.order line ≡ Some call)) → IfSome m (λ rest. (input : List ℕ) → Reached setup input rest (read + 1) place ran.written → AppendsPrefix before after (text_before input) × AppendsPrefix before after (output_of input))
      known None n next = tt
      known (Some ys) None next = absurd next
      known (Some ys) (Some zs) next = λ input h.
          (let prefixes : IsPrefix (ran.written ++ replies_text (turn setup place call).replies) (text_before input) × IsPrefix (ran.written ++ replies_text (turn setup place call).replies) (output_of input) = replies-next setup input ys (read + 1) place ran.written next.0 zs call h next.1 next.2 in
          (prefix-more before now after ran.written (replies_text (turn setup place call).replies) (text_before input) ran.wrote prefix prefixes.0, prefix-more before now after ran.written (replies_text (turn setup place call).replies) (output_of input) ran.wrote prefix prefixes.1))

  -- no line is left
  pub ran-ended : (P : (input : List ℕ) → Type 0) → IfSome mid (λ xs. lines_of xs ≡ []) → ((input : List ℕ) → Ended setup input place ran.written → P input) → IfSome old (λ first. (input : List ℕ) → Reached setup input first 2 (start setup) [] → P input)
  ran-ended P none ends = at_rest P old mid ran.came (known mid none)
    where
      known : (m : Option (List ℕ)) → IfSome m (λ xs. lines_of xs ≡ []) → IfSome m (λ rest. (input : List ℕ) → Reached setup input rest (read + 1) place ran.written → P input)
      known None none = tt
      known (Some ys) none = λ input h. ends input (reached-end setup input ys (read + 1) place ran.written h none)

  -- and the last line was written
  pub ran-closed : (after : Option (List ℕ)) → IfSome mid (λ xs. lines_of xs ≡ []) → Appends now after (last_line (place.gone + place.records) (standing_of setup place)) → IfSome old (λ first. (input : List ℕ) → Reached setup input first 2 (start setup) [] → (fault_of input ≡ None) × Appends before after (output_of input))
  ran-closed after none wrote = ran-ended (λ input. (fault_of input ≡ None) × Appends before after (output_of input)) none
      (λ input ended. (ended.fault, subst (λ t. Appends before after t) (sym ended.output) (appends-more before now after ran.written (last_line (place.gone + place.records) (standing_of setup place)) ran.wrote wrote)))

  -- or only a prefix of it
  pub ran-half_closed : (after : Option (List ℕ)) → IfSome mid (λ xs. lines_of xs ≡ []) → AppendsPrefix now after (last_line (place.gone + place.records) (standing_of setup place)) → IfSome old (λ first. (input : List ℕ) → Reached setup input first 2 (start setup) [] → AppendsPrefix before after (output_of input))
  ran-half_closed after none prefix = ran-ended (λ input. AppendsPrefix before after (output_of input)) none
      (λ input ended. prefix-more before now after ran.written (last_line (place.gone + place.records) (standing_of setup place)) (output_of input) ran.wrote prefix ([], ended.output ∙ sym (append-nil _)))

  -- or none of it
  pub ran-unclosed : (after : Option (List ℕ)) → IfSome mid (λ xs. lines_of xs ≡ []) → AppendsPrefix now after [] → IfSome old (λ first. (input : List ℕ) → Reached setup input first 2 (start setup) [] → AppendsPrefix before after (text_before input))
  ran-unclosed after none prefix = ran-ended (λ input. AppendsPrefix before after (text_before input)) none
      (λ input ended. prefix-more before now after ran.written [] (text_before input) ran.wrote prefix ([], ended.text ∙ sym (append-nil ran.written) ∙ sym (append-nil (ran.written ++ []))))

-- a fact of a known value that follows from another
pub follows : {X : Type 0} {P Q : X → Type 0} (o : Option X) → ((x : X) → P x → Q x) → IfSome o P → IfSome o Q
follows None f h = tt
follows (Some x) f h = f x h

-- how a run ends at a faulty line
pub bad_line-ends : (f : RunFault) (n : ℕ) (fault : Option ℕ) (text output : List ℕ) (old new : Option (List ℕ)) → f ≡ record { why = BadLine; line = Some n } → (fault ≡ Some n) × Appends old new output → RunEnds fault text output (Err f) old new
bad_line-ends f n fault text output old new is at = subst (λ x. RunEnds fault text output (Err x) old new) (sym is) at

-- how a run that was cut short ends
pub cut-ends : (f : RunFault) (why : Refusal) (fault : Option ℕ) (text output : List ℕ) (old new : Option (List ℕ)) → f ≡ record { why = why; line = None } → (why ≡ Memory) ⊎ (why ≡ WriteFault) → AppendsPrefix old new text × AppendsPrefix old new output → RunEnds fault text output (Err f) old new
cut-ends f why fault text output old new is (inl memory) prefixes =
    subst (λ x. RunEnds fault text output (Err x) old new) (sym (is ∙ ap (λ w. let x : RunFault = record { why = w; line = None } in x) memory)) prefixes.0
cut-ends f why fault text output old new is (inr write) prefixes =
    subst (λ x. RunEnds fault text output (Err x) old new) (sym (is ∙ ap (λ w. let x : RunFault = record { why = w; line = None } in x) write)) prefixes.1

module _ (setup : Setup) (old mid : Option (List ℕ)) (before now : Option (List ℕ)) (read : ℕ) (place : Place) (ran : Ran setup old mid before now read place) where
  -- a run whose call was answered and not written whole
  pub runs-cut : (new after : Option (List ℕ)) (call : Call) (f : RunFault) (why : Refusal) → Both mid new (λ xs ys. (line : List ℕ) × (lines_of xs ≡ line ∷ lines_of ys) × (call_of setup.kind.order line ≡ Some call)) → AppendsPrefix now after (replies_text (turn setup place call).replies) → f ≡ record { why = why; line = None } → (why ≡ Memory) ⊎ (why ≡ WriteFault) → IfSome old (λ rest. RunsOn setup rest (Err f) before after)
  runs-cut new after call f why next prefix is cut =
      follows old (λ rest prefixes input h. cut-ends f why (fault_of input) (text_before input) (output_of input) before after is cut (prefixes input h)) (ran-cut setup old mid before now read place ran new after call next prefix)

  -- a run whose last line was not written whole
  pub runs-unclosed : (after : Option (List ℕ)) (f : RunFault) (why : Refusal) → IfSome mid (λ xs. lines_of xs ≡ []) → AppendsPrefix now after (last_line (place.gone + place.records) (standing_of setup place)) → (why ≡ Memory → AppendsPrefix now after []) → f ≡ record { why = why; line = None } → (why ≡ Memory) ⊎ (why ≡ WriteFault) → IfSome old (λ rest. RunsOn setup rest (Err f) before after)
  runs-unclosed after f why none prefix nothing is (inl memory) =
      follows old (λ rest text input h. subst (λ x. RunEnds (fault_of input) (text_before input) (output_of input) (Err x) before after) (sym (is ∙ ap (λ w. let x : RunFault = record { why = w; line = None } in x) memory)) (text input h)) (ran-unclosed setup old mid before now read place ran after none (nothing memory))
  runs-unclosed after f why none prefix nothing is (inr write) =
      follows old (λ rest text input h. subst (λ x. RunEnds (fault_of input) (text_before input) (output_of input) (Err x) before after) (sym (is ∙ ap (λ w. let x : RunFault = record { why = w; line = None } in x) write)) (text input h)) (ran-half_closed setup old mid before now read place ran after none prefix)

  -- a run that reached its end
  pub runs-closed : (after : Option (List ℕ)) → IfSome mid (λ xs. lines_of xs ≡ []) → Appends now after (last_line (place.gone + place.records) (standing_of setup place)) → IfSome old (λ rest. RunsOn setup rest (Ok true) before after)
  runs-closed after none wrote =
      follows old (λ rest ended input h. (refl, (ended input h).0, (ended input h).1)) (ran-closed setup old mid before now read place ran after none wrote)

-- a run behind its first line
pub runs-behind : (setup : Setup) (old mid : Option (List ℕ)) (result : Result Bool RunFault) (before after : Option (List ℕ)) → Both old mid (λ xs ys. (line : List ℕ) × (lines_of xs ≡ line ∷ lines_of ys) × (setup_of line ≡ Some setup)) → IfSome mid (λ rest. RunsOn setup rest result before after) → IfSome old (λ input. RunEnds (fault_of input) (text_before input) (output_of input) result before after)
runs-behind setup None mid result before after first runs = tt
runs-behind setup (Some xs) None result before after first runs = absurd first
runs-behind setup (Some xs) (Some ys) result before after first runs =
    runs xs (reached-first setup xs ys first.0 first.1 first.2)

-- a run whose first line is at fault, or isn't there
pub runs-faulty : (old writer : Option (List ℕ)) → IfSome old (λ xs. (line : List ℕ) × (lines : List (List ℕ)) × (lines_of xs ≡ line ∷ lines) × (setup_of line ≡ None)) → IfSome old (λ input. (fault_of input ≡ Some 1) × Appends writer writer (output_of input))
runs-faulty None writer faulty = tt
runs-faulty (Some xs) writer faulty =
    let ended : EndedAtFault xs 1 [] = fault-at-first xs faulty.0 faulty.1 faulty.2 faulty.3 in
    (ended.fault, subst (λ t. Appends writer writer t) (sym ended.output) (appends-nothing writer))

pub runs-lineless : (old writer : Option (List ℕ)) → IfSome old (λ xs. lines_of xs ≡ []) → IfSome old (λ input. (fault_of input ≡ Some 1) × Appends writer writer (output_of input))
runs-lineless None writer none = tt
runs-lineless (Some xs) writer none =
    let ended : EndedAtFault xs 1 [] = fault-without-line xs none in
    (ended.fault, subst (λ t. Appends writer writer t) (sym ended.output) (appends-nothing writer))

-- a run that broke off before its first line
pub runs-unstarted : (old writer : Option (List ℕ)) → IfSome old (λ input. AppendsPrefix writer writer (text_before input))
runs-unstarted None writer = tt
runs-unstarted (Some xs) writer = ([], appends-nothing writer, (text_before xs, refl))
