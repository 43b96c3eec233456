-- What the two forms of narrowing have to do with each other (document 02, Q-12).
use Rattle.std.specs.Prelude.{ℕ, ◌≡◌, List, true, length, take}
use Rattle.charset.specs.declared.Charset.{Charset}
use Rattle.query.specs.Reading.{Asked}
use Rattle.lines.specs.Lines.{lines}
use Rattle.narrowing.specs.Narrowing.{rising}
use Rattle.dictionary.specs.Narrowing.{narrowed, narrowed_sorted}

pub record NarrowingLaws : Type 0 where
  -- on a list that rises in 1 to the line count both give the same answer or refusal, and leave the same list memory
  pub alike : (set : Charset) (dict list : List ℕ) (n : ℕ) (query : Asked) → rising (length (lines dict)) (take n list) ≡ true
      → narrowed_sorted set dict list n query ≡ narrowed set dict list n query
