-- The walk that looks for the entries that meet a query: at its start, after a line and at its end.
use Prim.Native.Nat.{ℕ, ◌+◌, ◌-◌, ◌/◌, ◌%◌, ◌^◌, ◌≤◌, ◌<◌}
use mathlib.Core.Path.{◌≡◌, sym, ap, ◌∙◌}
use mathlib.Core.List.{List}
use mathlib.Core.Bool.{Bool, true, false, ◌&&◌}
use native.Mathlib.Omega.{arith}
use lib.ListN.{length, take, drop, set}
use Rattle.std.specs.Prelude.{Result as Answer, Ok, Err}
use Rattle.format.specs.Format.{choose, keep}
use Rattle.charset.specs.declared.Charset.{Charset}
use Rattle.token.specs.declared.refusal.Refusal.{Refusal}
use Rattle.token.specs.Result.{done, outcome}
use Rattle.lines.specs.Lines.{lines as lines_of, line_of}
use Rattle.lines.proofs.Starts.{Line}
use Rattle.narrowing.specs.Narrowing.{entries_from, up_to, first_bad}
use Rattle.narrowing.proofs.Rising.{bad_keep, bad_start, bad_here, bad_later, bad_none}
use Rattle.format.proofs.Keeping.{keep_keep}
use Rattle.narrowing.proofs.Entries.{Passed, passed_start, passed_few, passed_in, passed_out, passed_end}
use Rattle.list.specs.Bits.{byte_of, bit_of, EndsBefore}
use Rattle.entries.specs.Entries.{readable}
use Rattle.entries.specs.Judging.{meets_words}
use Rattle.entries.specs.Finding.{listed_verdict, found_in, Kept}
use Rattle.entries.proofs.Lines.{wrong_refused, none_wrong}
use Rattle.entries.proofs.Walking.{Walking, walking_start, walking_end, walking-in, walking-out}
use Rattle.entries.proofs.Meeting.{listed_wrong, listed_good, listed_met}

-- a listed entry has to be a sign, and is sought if it meets the query
abbrev passes : Charset → List ℕ → List ℕ → ℕ → Bool
passes c dict listed e = choose (bit_of listed e) (readable c dict e) true

abbrev pub sought : Charset → List ℕ → List ℕ → List ℕ → ℕ → Bool
sought c dict words listed e = bit_of listed e && meets_words c dict words e

-- of the lines passed no listed one is wrong, and `met` are sought
pub record Seeking (c : Charset) (dict : List ℕ) (count : ℕ) (words listed before bits : List ℕ) (start passed met : ℕ) : Type 0 where
  pub walk : Walking dict count (sought c dict words listed) before bits start passed
  pub good : first_bad (passes c dict listed) (entries_from (passed + 1) (count - passed)) ≡ first_bad (passes c dict listed) (up_to count)
  pub counted : Passed (sought c dict words listed) met passed

pub seeking_start : (c : Charset) (dict : List ℕ) (count : ℕ) (words listed bits : List ℕ) → count ≡ length (lines_of dict) → count / 8 < length bits
    → EndsBefore 1 bits → Seeking c dict count words listed bits bits 0 0 0
seeking_start c dict count words listed bits l r h = record {
  walk = walking_start dict count (sought c dict words listed) bits l r h;
  good = bad_start (passes c dict listed) count;
  counted = passed_start (sought c dict words listed);
}

module _ {c : Charset} {dict : List ℕ} {count : ℕ} {words listed before bits : List ℕ} {start passed met : ℕ} (w : Seeking c dict count words listed before bits start passed met) where
  pub seeking_few : met ≤ passed
  seeking_few = passed_few w.counted

  abbrev entries : List ℕ
  entries = keep (bit_of listed) (up_to count)

  abbrev counting : ℕ
  counting = length (keep (meets_words c dict words) entries)

  wrong_is : first_bad (readable c dict) entries ≡ first_bad (passes c dict listed) (up_to count)
  wrong_is = bad_keep (readable c dict) (bit_of listed) (up_to count)

  pub seeking_kept : {x : Refusal} → Kept (Err x) (bit_of listed) (meets_words c dict words) count before bits
  seeking_kept = record { long = w.walk.long; holds = λ m e. absurd (cc) }

  pub seeking_end : passed ≤ count → count ≤ passed
      → record { found : done met ≡ found_in c dict entries (meets_words c dict words); kept : Kept (Ok met) (bit_of listed) (meets_words c dict words) count before bits }
  seeking_end l h =
      let m : met ≡ counting = passed_end w.counted count l h ∙ ap length (sym (keep_keep (bit_of listed) (meets_words c dict words) (up_to count))) in
      record {
        found = ap done m ∙ none_wrong (readable c dict) entries (done counting) (bad_none (passes c dict listed) passed count _ w.good h ∙ sym wrong_is);
        kept = record { long = w.walk.long; holds = λ n e. walking_end w.walk l h };
      }

  module _ (h : passed < count) {end : ℕ} (l : Line dict (passed + 1) start end) {v : Answer Bool Refusal}
      (e : v ≡ listed_verdict c words (take (end - start) (drop start dict)) listed (passed + 1)) where
    verdict : v ≡ listed_verdict c words (line_of dict (passed + 1)) listed (passed + 1)
    verdict = e ∙ ap (λ line. listed_verdict c words line listed (passed + 1)) l.part

    pub seeking_wrong : {x : Refusal} → v ≡ Err x → outcome (Err x) ≡ found_in c dict entries (meets_words c dict words)
    seeking_wrong z =
        let t = listed_wrong words c dict listed (passed + 1) verdict z in
        let b : passed + 1 ≡ first_bad (readable c dict) entries = bad_here (passes c dict listed) passed count _ w.good h t.1 ∙ sym wrong_is in
        ap (λ x. outcome (Err x)) t.0 ∙ wrong_refused (readable c dict) entries (done counting) b (λ q. omega arith)

    later : {b : Bool} → v ≡ Ok b → first_bad (passes c dict listed) (entries_from (passed + 1 + 1) (count - (passed + 1))) ≡ first_bad (passes c dict listed) (up_to count)
    later z = bad_later (passes c dict listed) passed count _ w.good h (listed_good words c dict listed (passed + 1) verdict z)

    says : {b : Bool} → v ≡ Ok b → b ≡ sought c dict words listed (passed + 1)
    says z = listed_met words c dict listed (passed + 1) verdict z

    pub seeking_met : {b : Bool} → v ≡ Ok b → b ≡ true
        → Seeking c dict count words listed before (set bits ((passed + 1) / 8) (byte_of bits ((passed + 1) / 8) + 2 ^ ((passed + 1) % 8))) (end + 1) (passed + 1) (met + 1)
    seeking_met z m =
        let t = sym (says z) ∙ m in
        record { walk = walking-in w.walk h l t; good = later z; counted = passed_in w.counted t }

    pub seeking_unmet : {b : Bool} → v ≡ Ok b → b ≡ false → Seeking c dict count words listed before bits (end + 1) (passed + 1) met
    seeking_unmet z m =
        let t = sym (says z) ∙ m in
        record { walk = walking-out w.walk h l t; good = later z; counted = passed_out w.counted t }
