-- A word: bytes of which two tests say whether they begin a word and whether they are one.
use Rattle.std.specs.Prelude.{ℕ, ◌≡◌, List, [], ◌∷◌, ◌++◌, Bool, true, false}
use Rattle.format.specs.Format.{Answer, value, other, wrong, short, Format, choose}

module _ (begins is : List ℕ → Bool) where
  -- what was read, where no byte that goes on follows
  abbrev pub stopped : List ℕ → List ℕ → Answer (List ℕ)
  stopped word [] = choose (is word) (value word []) short
  stopped [] (b ∷ text) = choose (is []) (value [] (b ∷ text)) other
  stopped (a ∷ word) (b ∷ text) = choose (is (a ∷ word)) (value (a ∷ word) (b ∷ text)) (wrong (b ∷ text))

  -- a word is read as far as its bytes begin one
  abbrev pub go_on : List ℕ → List ℕ → Answer (List ℕ)
  go_on word [] = stopped word []
  go_on word (b ∷ text) = choose (begins (word ++ (b ∷ []))) (go_on (word ++ (b ∷ [])) text) (stopped word (b ∷ text))

  -- a text that does not go on with a word
  abbrev pub Stops : List ℕ → List ℕ → Type 0
  Stops word [] = Unit
  Stops word (b ∷ text) = begins (word ++ (b ∷ [])) ≡ false

  abbrev pub word : Format (List ℕ)
  word = record { read = go_on []; write = λ v. v; Valid = λ v. is v ≡ true; Follow = Stops }
