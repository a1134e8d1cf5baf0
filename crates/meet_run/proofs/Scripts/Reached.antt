-- How far a run has come: what it wrote, and three equations about what is left.
use Rattle.std.proofs.Common.{◌≡◌, ℕ, ◌+◌, List, [], ◌∷◌, ◌++◌, Some, None, sym, ap, ◌∙◌, append_assoc, append-nil}
use Rattle.meet_history.specs.declared.one_thread.verbs.Call.{Call}
use Rattle.meet_history.specs.declared.one_thread.setup.Setup.{Setup}
use Rattle.meet_history.specs.OneThread.{Place, start, turn, standing_of}
use Rattle.meet_run.specs.Scripts.Grammar.{call_of, setup_of}
use Rattle.meet_run.specs.Scripts.Wording.{last_line}
use Rattle.meet_run.specs.Texts.Reading.{lines_of, Listed, no_more, faulty_at, with_item}
use Rattle.meet_run.specs.Texts.Writing.{IsPrefix}
use Rattle.meet_run.specs.Scripts.Script.{Reached, calls_from, replies_text, text_from, output_from, fault_in, text_in, output_in, fault_of, text_before, output_of}
use Rattle.meet_run.proofs.Scripts.ScriptLemmas.{reads, listed-end, listed-more, listed-fault, text-end, text-more, output-more, output-end, output-fault, first-line, first-fault, no-line}

-- after the first line nothing is written
pub reached-first : (setup : Setup) (input rest line : List ℕ) → lines_of input ≡ line ∷ lines_of rest → setup_of line ≡ Some setup → Reached setup input rest 2 (start setup) []
reached-first setup input rest line is read =
    let behind = first-line setup line (lines_of rest) read in
    record {
      fault = ap (λ (ls : List (List ℕ)). fault_in ls) is ∙ behind.fault;
      text = ap (λ (ls : List (List ℕ)). text_in ls) is ∙ behind.text;
      output = ap (λ (ls : List (List ℕ)). output_in ls) is ∙ behind.output;
    }

-- a call's replies are written
pub reached-more : (setup : Setup) (input rest : List ℕ) (n : ℕ) (place : Place) (written line : List ℕ) (more : List ℕ) (call : Call) → Reached setup input rest n place written → lines_of rest ≡ line ∷ lines_of more → call_of setup.kind.order line ≡ Some call → Reached setup input more (n + 1) (turn setup place call).place (written ++ replies_text (turn setup place call).replies)
reached-more setup input rest n place written line more call h is read =
    let order = setup.kind.order in
    let left : Listed Call = calls_from order (n + 1) (lines_of more) in
    let t = turn setup place call in
    let calls : calls_from order n (lines_of rest) ≡ with_item call left = ap (λ (ls : List (List ℕ)). calls_from order n ls) is ∙ listed-more (reads order) n line (lines_of more) call read in
    record {
      fault = h.fault ∙ ap (λ (c : Listed Call). c.fault) calls;
      text = h.text ∙ (ap (λ (c : Listed Call). written ++ text_from setup place c.items) calls ∙ (ap (λ (s : List ℕ). written ++ s) (text-more setup place call left.items) ∙ sym (append_assoc written (replies_text t.replies) (text_from setup t.place left.items))));
      output = h.output ∙ (ap (λ (c : Listed Call). written ++ output_from setup place c) calls ∙ (ap (λ (s : List ℕ). written ++ s) (output-more setup place call left) ∙ sym (append_assoc written (replies_text t.replies) (output_from setup t.place left))));
    }

-- what is written goes on with a call's replies
pub replies-next : (setup : Setup) (input rest : List ℕ) (n : ℕ) (place : Place) (written line : List ℕ) (more : List ℕ) (call : Call) → Reached setup input rest n place written → lines_of rest ≡ line ∷ lines_of more → call_of setup.kind.order line ≡ Some call → IsPrefix (written ++ replies_text (turn setup place call).replies) (text_before input) × IsPrefix (written ++ replies_text (turn setup place call).replies) (output_of input)
replies-next setup input rest n place written line more call h is read =
    let next = reached-more setup input rest n place written line more call h is read in
    ((_, next.text), (_, next.output))

-- what is written is a prefix of all
pub reached-prefix : (setup : Setup) (input rest : List ℕ) (n : ℕ) (place : Place) (written : List ℕ) → Reached setup input rest n place written → IsPrefix written (text_before input) × IsPrefix written (output_of input)
reached-prefix setup input rest n place written h = ((_, h.text), (_, h.output))

-- what a run gives at its end
pub record Ended (setup : Setup) (input : List ℕ) (place : Place) (written : List ℕ) : Type 0 where
  pub fault : fault_of input ≡ None
  pub text : text_before input ≡ written
  pub output : output_of input ≡ written ++ last_line (place.gone + place.records) (standing_of setup place)

pub reached-end : (setup : Setup) (input rest : List ℕ) (n : ℕ) (place : Place) (written : List ℕ) → Reached setup input rest n place written → lines_of rest ≡ [] → Ended setup input place written
reached-end setup input rest n place written h is =
    let calls : calls_from setup.kind.order n (lines_of rest) ≡ no_more = ap (λ (ls : List (List ℕ)). calls_from setup.kind.order n ls) is ∙ listed-end (reads setup.kind.order) n in
    record {
      fault = h.fault ∙ ap (λ (c : Listed Call). c.fault) calls;
      text = h.text ∙ (ap (λ (c : Listed Call). written ++ text_from setup place c.items) calls ∙ (ap (λ (s : List ℕ). written ++ s) (text-end setup place) ∙ append-nil written));
      output = h.output ∙ (ap (λ (c : Listed Call). written ++ output_from setup place c) calls ∙ ap (λ (s : List ℕ). written ++ s) (output-end setup place));
    }

-- what a run gives where it ends at a fault
pub record EndedAtFault (input : List ℕ) (n : ℕ) (written : List ℕ) : Type 0 where
  pub fault : fault_of input ≡ Some n
  pub text : text_before input ≡ written
  pub output : output_of input ≡ written

pub reached-fault : (setup : Setup) (input rest : List ℕ) (n : ℕ) (place : Place) (written line : List ℕ) (lines : List (List ℕ)) → Reached setup input rest n place written → lines_of rest ≡ line ∷ lines → call_of setup.kind.order line ≡ None → EndedAtFault input n written
reached-fault setup input rest n place written line lines h is read =
    let calls : calls_from setup.kind.order n (lines_of rest) ≡ faulty_at n = ap (λ (ls : List (List ℕ)). calls_from setup.kind.order n ls) is ∙ listed-fault (reads setup.kind.order) n line lines read in
    record {
      fault = h.fault ∙ ap (λ (c : Listed Call). c.fault) calls;
      text = h.text ∙ (ap (λ (c : Listed Call). written ++ text_from setup place c.items) calls ∙ (ap (λ (s : List ℕ). written ++ s) (text-end setup place) ∙ append-nil written));
      output = h.output ∙ (ap (λ (c : Listed Call). written ++ output_from setup place c) calls ∙ (ap (λ (s : List ℕ). written ++ s) (output-fault setup place n) ∙ append-nil written));
    }

-- a first line that is at fault
pub fault-at-first : (input line : List ℕ) (lines : List (List ℕ)) → lines_of input ≡ line ∷ lines → setup_of line ≡ None → EndedAtFault input 1 []
fault-at-first input line lines is read =
    let faulty = first-fault line lines read in
    record {
      fault = ap (λ (ls : List (List ℕ)). fault_in ls) is ∙ faulty.fault;
      text = ap (λ (ls : List (List ℕ)). text_in ls) is ∙ faulty.text;
      output = ap (λ (ls : List (List ℕ)). output_in ls) is ∙ faulty.output;
    }

-- no first line
pub fault-without-line : (input : List ℕ) → lines_of input ≡ [] → EndedAtFault input 1 []
fault-without-line input is = record {
  fault = ap (λ (ls : List (List ℕ)). fault_in ls) is ∙ no-line.fault;
  text = ap (λ (ls : List (List ℕ)). text_in ls) is ∙ no-line.text;
  output = ap (λ (ls : List (List ℕ)). output_in ls) is ∙ no-line.output;
}
