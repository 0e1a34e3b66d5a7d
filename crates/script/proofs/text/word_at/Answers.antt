-- `script::text::word_at` finds the place among the words by the key, in the function of its length. Assumes nothing.
use Rattle.script.proofs.WordAtFront.{word_text}
use Rattle.script.proofs.text.word_at.Goals as goal

pub returns-then-k-lt-FOUR_END : goal.returns-then-k-lt-FOUR_END
returns-then-k-lt-FOUR_END c =
    word_text _ (λ i. (c.type_inv.s i).fits) c.key-k.ensures c.word_of_four.ensures

pub returns-then-k-lt-FIVE_END : goal.returns-then-k-lt-FIVE_END
returns-then-k-lt-FIVE_END c =
    word_text _ (λ i. (c.type_inv.s i).fits) c.key-k.ensures c.word_of_five.ensures

pub returns : goal.returns
returns c =
    word_text _ (λ i. (c.type_inv.s i).fits) c.key-k.ensures c.word_of_six.ensures
