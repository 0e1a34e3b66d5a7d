-- `answer_values` reads a line of values, answers it and writes the answer. Assumes nothing.
use mathlib.Core.Path.{ap, ◌∙◌}
use Rattle.script.specs.Line.{read_line}
use Rattle.script.proofs.Replies.{said_next, said_text}
use Rattle.script.proofs.Texts.{line_of}
use Rattle.script.proofs.runner.answer_values.Goals as goal

pub returns : goal.returns
returns c =
    record {
      asked = c.next-front.result.asked;
      read = λ header o. c.next-front.ensures.1 header o ∙ ap (read_line header) c.requires.2;
      next = said_next _ _ _ c.answer_line-a.ensures;
      puts = said_text _ _ _ c.answer_line-a.ensures (line_of _ c.numeral_of.ensures c.put_line-wrote.ensures);
    }
