-- The check of a dictionary (document 01, "Refusal numbers"): 12, and then 14.
use Rattle.std.specs.Prelude.{ℕ, List, Bool, length}
use Rattle.token.specs.Refusal.{dictionary_unended, too_many}
use Rattle.token.specs.Result.{Result, done, check}
use Rattle.lines.specs.Lines.{lines, ended, is_few}

-- refused as 12 unless it is ended
abbrev pub check_ended : {A : Type 0} → Bool → Result A → Result A
check_ended whole r = check whole dictionary_unended 0 r

-- refused as 14 with over 65,535 lines
abbrev pub check_few : {A : Type 0} → ℕ → Result A → Result A
check_few n r = check (is_few n) too_many 0 r

-- the line count, refused as 12, then as 14
abbrev pub checked_count : Bool → ℕ → Result ℕ
checked_count whole n = check_ended whole (check_few n (done n))

abbrev pub line_count : List ℕ → Result ℕ
line_count dict = checked_count (ended dict) (length (lines dict))
