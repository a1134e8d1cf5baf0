-- One turn after another, and the text of their replies.
use Rattle.std.proofs.Common.{◌≡◌, ℕ, ◌+◌, ◌<◌, List, [], ◌∷◌, ◌++◌, length, take, get_or, Option, Some, refl, sym, ap, ◌∙◌, subst, append_assoc, append-nil}
use Rattle.std.specs.List.{flat_map}
use Rattle.std.proofs.lemmas.Grind.{flat_map-append}
use Rattle.std.proofs.lemmas.List.{take_more, flat_map_more}
use Rattle.meet_run.specs.Texts.Reading.{lines_of, Both}
use Rattle.pool_core.specs.declared.settings.Settings.{Settings}
use Rattle.pool_history.specs.declared.one_thread.replies.PoolReply.{PoolReply}
use Rattle.pool_history.specs.declared.one_thread.verbs.PoolRequest.{PoolRequest}
use Rattle.pool_history.specs.OneThread.{Thread, IsNew, IsTurn, AreTurns}
use Rattle.pool_run.specs.Requests.{request_of}
use Rattle.pool_run.specs.Wording.{pool_reply_line}
use Rattle.pool_run.specs.Scripts.{replies_text, HasRun}

-- one turn more
turns-more : (old t new : Thread) (requests : List PoolRequest) (replies : List PoolReply) (request : PoolRequest) (said : List PoolReply) → AreTurns old requests replies t → IsTurn t request said new → AreTurns old (requests ++ request ∷ []) (replies ++ said) new
turns-more old t new [] replies request said turns turn =
    (new, said, [], ap (λ rs. rs ++ said) turns.0 ∙ sym (append-nil said), subst (λ o. IsTurn o request said new) turns.1 turn, (refl, refl))
turns-more old t new (first ∷ requests) replies request said turns turn =
    let between = turns.0 in
    let told = turns.1 in
    let rest = turns.2 in
    (between, told, rest ++ said, ap (λ rs. rs ++ said) turns.3 ∙ append_assoc told rest said, turns.4, turns-more between t new requests rest request said turns.5 turn)

pub run-more : (s : Settings) (t new : Thread) (requests : List PoolRequest) (replies : List PoolReply) (request : PoolRequest) (said : List PoolReply) → HasRun s requests replies t → IsTurn t request said new → HasRun s (requests ++ request ∷ []) (replies ++ said) new
run-more s t new requests replies request said run turn =
    record { start = run.start; new = run.new; turns = turns-more run.start t new requests replies request said run.turns turn }

-- a new pool has made no calls
pub run-none : (s : Settings) (t : Thread) → IsNew s t → HasRun s [] [] t
run-none s t new = record { start = t; new = new; turns = (refl, refl) }

-- the text of some replies and of more
pub text-more : (replies said : List PoolReply) → replies_text replies ++ replies_text said ≡ replies_text (replies ++ said)
unfolding replies_text
text-more replies said = sym (flat_map-append pool_reply_line replies said)

pub text-none : replies_text [] ≡ []
unfolding replies_text
text-none = refl

-- how a script's calls are read
abbrev pub reads : ℕ → List ℕ → Option PoolRequest
reads n line = request_of line

-- a line was read as this call
abbrev pub ReadsCall : (old new : Option (List ℕ)) → PoolRequest → Type 0
ReadsCall old new request = Both old new (λ xs ys. (line : List ℕ) × (lines_of xs ≡ line ∷ lines_of ys) × (request_of line ≡ Some request))

-- the text of some replies and of one more
pub text-take : (prefix : List ℕ) (replies : List PoolReply) (i : ℕ) (reply : PoolReply) → i < length replies → reply ≡ get_or replies i reply → (prefix ++ replies_text (take i replies)) ++ pool_reply_line reply ≡ prefix ++ replies_text (take (i + 1) replies)
unfolding replies_text
text-take prefix replies i reply there is =
    flat_map_more pool_reply_line prefix (take i replies) reply
    ∙ ap (λ rs. prefix ++ flat_map pool_reply_line rs) (ap (λ r. take i replies ++ r ∷ []) is ∙ sym (take_more replies i reply there))
