use Rattle.verdict.proofs.Answers.{query_laid, query_judged}
use Rattle.verdict.proofs.verdict_in_words.Goals as goal

pub invariant_of-judge_text : goal.invariant_of-judge_text
invariant_of-judge_text c = record { laid = query_laid _ _ _ _ _ c.read_into.ensures c.requires.1 _ c.in_ok-read_into.was }

pub returns : goal.returns
returns c = query_judged _ _ _ _ _ c.read_into.ensures c.requires.1 _ c.in_ok-read_into.was _ _ _ c.judge_text.ensures
