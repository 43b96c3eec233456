-- What is left of a text where nothing may follow.
use Rattle.std.specs.Prelude.{Result as Answer, Ok, Err, ℕ, ◌-◌, ⊤, eqb, ltb}
use Rattle.format.specs.Format.{choose}
use Rattle.charset.specs.declared.Charset.{Charset}
use Rattle.charset.specs.Tokens.{tokens}
use Rattle.token.specs.declared.refusal.Refusal.{Refusal}
use Rattle.token.specs.declared.refusal.Refusal.TheVariants.{TextWrong, TextShort}

-- at an offset of a text of size bytes
unfoldable pub left_over : Charset → ℕ → ℕ → Answer ⊤ Refusal
left_over set size at = choose (eqb at size) (Ok tt) (choose (ltb (size - at) (tokens set).unit) (Err (TextShort size)) (Err (TextWrong at)))
