-- A sign in memory, and the sign that moving its numbers makes of it.
use Prim.Native.Nat.{ℕ, zero, suc, ◌≤◌, ◌<◌}
use mathlib.Core.Path.{◌≡◌, refl, sym, ap, ◌∙◌}
use mathlib.Core.Bool.{Bool, true, false, and-eq-true_iff}
use mathlib.Core.List.{List, [], ◌∷◌, ◌++◌, map}
use native.Mathlib.Omega.{arith}
use lib.IntN.{ℤ}
use lib.ListN.{length}
use Rattle.format.specs.Format.{All, every}
use Rattle.format.proofs.Lists.{all_weaker}
use Rattle.format.specs.Numeral.{Range}
use Rattle.charset.specs.Tokens.{last_code, last_writing}
use Rattle.grammar.specs.declared.Head.{Head}
use Rattle.grammar.specs.declared.Symbols.{Symbols}
use Rattle.grammar.specs.Sign.{Spatial, Meaning, Valid, ValidSymbol}
use Rattle.token.specs.Refusal.{number_outside}
use Rattle.token.specs.Result.{refusal, done}
use Rattle.writer.specs.Arrays.{upto, at, symbol_at, meaning_in}
use Rattle.writer.proofs.Upto.{map_upto}
use Rattle.moving.specs.Moves.{moved_number, stays, xs_of, ys_of, moved_symbol, moved_meaning, moved_sign}
use Rattle.moving.specs.Inner.{map_first, Coded}
use Rattle.moving.proofs.Numbers.{stays_number}
use Rattle.moving.proofs.Axes.{map_at}

pub all_first : {A : Type 0} (p : A → Bool) (a : A) (l : List A) → every p (a ∷ l) ≡ true → (p a ≡ true) × (every p l ≡ true)
all_first p a l e = (and-eq-true_iff (p a) (every p l)).0 e

-- the sign moves where all its numbers stay, and is refused where one of either axis leaves
module _ (dx dy : ℤ) (m : Meaning) where
  pub sign_moves : every (stays dx) (xs_of m) ≡ true → every (stays dy) (ys_of m) ≡ true → moved_sign dx dy m ≡ done (moved_meaning dx dy m)
  unfolding moved_sign
  sign_moves h k = rw (h, k)

  pub sign_leaves_x : every (stays dx) (xs_of m) ≡ false → moved_sign dx dy m ≡ refusal number_outside 0
  unfolding moved_sign
  sign_leaves_x h = rw h

  pub sign_leaves_y : every (stays dx) (xs_of m) ≡ true → every (stays dy) (ys_of m) ≡ false → moved_sign dx dy m ≡ refusal number_outside 0
  unfolding moved_sign
  sign_leaves_y h k = rw (h, k)

-- a valid sign is so but for its maximum too, whatever that is
pub coded_of : (m : Meaning) (x y : ℕ) → Valid m → Coded (record { prefix = m.prefix; marker = m.marker; x = x; y = y; symbols = m.symbols })
coded_of m x y ok = record {
  prefix = ok.prefix;
  marker = ok.marker;
  codes = all_weaker ValidSymbol (λ s. Range 1 (last_code last_writing) s.code) (λ s k. k.0) m.symbols ok.symbols;
}

-- symbols whose numbers stay
module _ (dx dy : ℤ) where
  symbols_valid : (l : List Spatial) → every (stays dx) (map (λ s. s.x) l) ≡ true → every (stays dy) (map (λ s. s.y) l) ≡ true
      → All (λ s. Range 1 (last_code last_writing) s.code) l → All ValidSymbol (map (moved_symbol dx dy) l)
  symbols_valid [] h k ok = tt
  symbols_valid (s ∷ l) h k ok =
      let p = all_first (stays dx) s.x (map (λ s. s.x) l) h in
      let q = all_first (stays dy) s.y (map (λ s. s.y) l) k in
      ((ok.0, (stays_number dx s.x p.0, stays_number dy s.y q.0)), symbols_valid l p.1 q.1 ok.1)

  pub moved_valid : (m : Meaning) → Coded m → every (stays dx) (xs_of m) ≡ true → every (stays dy) (ys_of m) ≡ true → Valid (moved_meaning dx dy m)
  moved_valid m c h k =
      let p = all_first (stays dx) m.x (map (λ s. s.x) m.symbols) h in
      let q = all_first (stays dy) m.y (map (λ s. s.y) m.symbols) k in
      record {
        prefix = c.prefix;
        marker = c.marker;
        maximum = (stays_number dx m.x p.0, stays_number dy m.y q.0);
        symbols = symbols_valid m.symbols p.1 q.1 c.codes;
      }

upto_same : {A : Type 0} (f g : ℕ → A) (n : ℕ) → ((i : ℕ) → i < n → f i ≡ g i) → upto f n ≡ upto g n
unfolding upto
upto_same f g zero same = refl
upto_same f g (suc n) same = λ j. upto_same f g n (λ i h. same i (omega arith)) j ++ (same n (omega arith) j ∷ [])

-- a sign in memory, whose numbers are tested and moved there
module _ (dx dy : ℤ) (head : Head) (symbols : Symbols) where
  abbrev pub before : Meaning
  before = meaning_in head symbols

  pub axis_x : (head.max_x ∷ upto (at symbols.xs) head.symbol_count) ≡ xs_of (meaning_in head symbols)
  axis_x = ap (λ l. head.max_x ∷ l) (sym (map_upto (λ s. s.x) (symbol_at symbols) head.symbol_count))

  pub axis_y : (head.max_y ∷ upto (at symbols.ys) head.symbol_count) ≡ ys_of (meaning_in head symbols)
  axis_y = ap (λ l. head.max_y ∷ l) (sym (map_upto (λ s. s.y) (symbol_at symbols) head.symbol_count))

  abbrev pub moved_head : Head
  moved_head = record {
    marker = head.marker;
    max_x = moved_number dx head.max_x;
    max_y = moved_number dy head.max_y;
    prefix_count = head.prefix_count;
    symbol_count = head.symbol_count;
  }

  abbrev pub moved_symbols : Symbols
  moved_symbols = record {
    prefix = symbols.prefix;
    codes = symbols.codes;
    xs = map_first (moved_number dx) head.symbol_count symbols.xs;
    ys = map_first (moved_number dy) head.symbol_count symbols.ys;
  }

  pub memory_moved : head.symbol_count ≤ length symbols.xs → head.symbol_count ≤ length symbols.ys
      → meaning_in (moved_head) (moved_symbols) ≡ moved_meaning dx dy (meaning_in head symbols)
  memory_moved hx hy =
      let n = head.symbol_count in
      let each : upto (symbol_at moved_symbols) n ≡ upto (λ i. moved_symbol dx dy (symbol_at symbols i)) n =
      upto_same (symbol_at moved_symbols) (λ i. moved_symbol dx dy (symbol_at symbols i)) n (λ i l j.
      record { code = at symbols.codes i; x = map_at (moved_number dx) n symbols.xs i l hx j; y = map_at (moved_number dy) n symbols.ys i l hy j }) in
      let moved = each ∙ sym (map_upto (moved_symbol dx dy) (symbol_at symbols) n) in
      λ j. record {
        prefix = upto (at symbols.prefix) head.prefix_count;
        marker = head.marker;
        x = moved_number dx head.max_x;
        y = moved_number dy head.max_y;
        symbols = moved j;
      }
