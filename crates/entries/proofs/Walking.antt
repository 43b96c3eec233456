-- A walk over the lines of a dictionary that puts the entries which pass a test into a set: at its start, after a line and at its end.
use Prim.Native.Nat.{ℕ, ◌+◌, ◌/◌, ◌%◌, ◌^◌, ◌≤◌, ◌<◌}
use mathlib.Core.Path.{◌≡◌, refl, sym, ap, ◌∙◌}
use mathlib.Core.List.{List}
use mathlib.Core.Bool.{Bool, true, false}
use native.Mathlib.Nat.{zero-add}
use native.Mathlib.Omega.{arith}
use lib.ListN.{length, drop, set, length-set}
use Rattle.lines.specs.Lines.{lines as lines_of, first_line, line_start}
use Rattle.lines.proofs.Starts.{Line, start_first, start_within, line_at}
use Rattle.list.specs.Bits.{byte_of, bit_of, EndsBefore, Holds}
use Rattle.list.proofs.Sets.{left_out, holds_none, holds_out, holds_in}

-- so many lines are passed, the next starts at `start`, and the set has those that pass
pub record Walking (dict : List ℕ) (count : ℕ) (test : ℕ → Bool) (before bits : List ℕ) (start passed : ℕ) : Type 0 where
  pub lines : count ≡ length (lines_of dict)
  pub here : start ≡ line_start dict (passed + 1)
  pub room : count / 8 < length bits
  pub long : length bits ≡ length before
  pub holds : Holds test passed bits

pub walking_start : (dict : List ℕ) (count : ℕ) (test : ℕ → Bool) (bits : List ℕ) → count ≡ length (lines_of dict) → count / 8 < length bits
    → EndsBefore 1 bits → Walking dict count test bits bits 0 0
walking_start dict count test bits l r h = record {
  lines = l;
  here = start_first dict ∙ ap (line_start dict) (sym (zero-add 1));
  room = r;
  long = refl;
  holds = holds_none test bits h;
}

module _ {dict : List ℕ} {count : ℕ} {test : ℕ → Bool} {before bits : List ℕ} {start passed : ℕ} (w : Walking dict count test before bits start passed) where
  pub walking_end : passed ≤ count → count ≤ passed → Holds test count bits
  walking_end m h = let s : passed ≡ count = omega arith in rw s at w.holds

  -- the next entry is not there yet
  pub walking_free : bit_of bits (passed + 1) ≡ false
  walking_free = left_out bits (passed + 1) w.holds.ends

  module _ (h : passed < count) where
    pub walking_within : start < length dict
    walking_within = start_within dict (passed + 1) start (omega arith) (omega (arith, w.lines)) w.here

    pub walking_line : (end : ℕ) → end ≡ start + length (first_line (drop start dict)) → Line dict (passed + 1) start end
    walking_line end e = line_at dict (passed + 1) start (omega arith) (omega (arith, w.lines)) w.here end e

    pub walking_room : (passed + 1) / 8 < length bits
    walking_room = omega (arith, w.room)

    module _ {end : ℕ} (l : Line dict (passed + 1) start end) where
      pub walking-in : test (passed + 1) ≡ true
          → Walking dict count test before (set bits ((passed + 1) / 8) (byte_of bits ((passed + 1) / 8) + 2 ^ ((passed + 1) % 8))) (end + 1) (passed + 1)
      walking-in t =
          let s = length-set bits ((passed + 1) / 8) (byte_of bits ((passed + 1) / 8) + 2 ^ ((passed + 1) % 8)) in
          record {
            lines = w.lines;
            here = l.next;
            room = omega (arith, w.room, s);
            long = s ∙ w.long;
            holds = holds_in w.holds walking_room t;
          }

      pub walking-out : test (passed + 1) ≡ false → Walking dict count test before bits (end + 1) (passed + 1)
      walking-out t = record {
        lines = w.lines;
        here = l.next;
        room = w.room;
        long = w.long;
        holds = holds_out w.holds t;
      }
