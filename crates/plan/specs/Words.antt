-- What a plan answers, in words.
use Rattle.std.specs.Prelude.{ℕ, List, ◌++◌, codes, decimal}
use Rattle.networks.specs.Refusals.{refusal_words}
use Rattle.plan.specs.declared.calls.Answer.{Answer}
use Rattle.plan.specs.declared.calls.Answer.TheVariants as answer
use Rattle.plan.specs.declared.calls.Ending.{Ending}
use Rattle.plan.specs.declared.calls.Ending.TheVariants as ending
use Rattle.plan.specs.declared.calls.Routed.{Routed}
use Rattle.plan.specs.declared.calls.Routed.TheVariants as routed

abbrev pub blocked_words : ℕ → List ℕ
blocked_words at = codes "blocked " ++ decimal at

abbrev pub sent_words : ℕ → ℕ → ℕ → List ℕ
sent_words from to amount = codes "sent " ++ decimal amount ++ codes " from " ++ decimal from ++ codes " to " ++ decimal to

abbrev pub routed_words : Routed → List ℕ
routed_words routed.Settled = codes "settled"
routed_words (routed.Blocked at) = blocked_words at
routed_words (routed.Sent from to amount) = sent_words from to amount

abbrev pub ending_words : Ending → List ℕ
ending_words ending.Settled = codes "settled"
ending_words (ending.Blocked at) = blocked_words at
ending_words ending.Unfinished = codes "unfinished"

-- how many routes a settle sent, and how it ended
abbrev pub outcome_words : ℕ → Ending → List ℕ
outcome_words routes e = decimal routes ++ codes " " ++ ending_words e

abbrev pub answer_words : Answer → List ℕ
answer_words answer.Opened = codes "open"
answer_words answer.Booked = codes "booked"
answer_words answer.Settled = codes "settled"
answer_words (answer.Blocked at) = blocked_words at
answer_words (answer.Sent from to amount) = sent_words from to amount
answer_words (answer.Ran routes e) = outcome_words routes e
answer_words (answer.Refused r) = refusal_words r
