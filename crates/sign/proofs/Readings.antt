-- The reading by value.
use Rattle.std.proofs.Common.{◌≡◌, ℕ, ◌-◌, ◌≤◌, List, map, length, drop, sym, ap, ◌∙◌, arith}
use lib.ListN.{length-map}
use Rattle.charset.specs.declared.Charset.{Charset}
use Rattle.grammar.specs.Offsets.{prefix_offsets, symbol_offsets}
use Rattle.grammar.specs.Sign.{Spatial, Meaning}
use Rattle.token.specs.Padded.{padded, zeros}
use Rattle.token.proofs.PaddedLists.{padded_length, drop_padded}
use Rattle.std.specs.Prelude.{Result as Answer, Ok, Err}
use Rattle.token.specs.declared.refusal.Refusal.{Refusal}
use Rattle.token.specs.Result.{done}
use Rattle.grammar.specs.declared.Head.{Head}
use Rattle.grammar.specs.declared.Symbols.{Symbols}
use Rattle.reader.specs.Inner.{ReadInto, head_of, symbols_of}
use Rattle.reader.specs.Signs.{sign_of}
use Rattle.reader.proofs.Counts.{was_refused, was_done}
use Rattle.sign.specs.Reading.{as_reading, reading_of, reading_in}
use Rattle.sign.specs.OffsetLaws.{with_offsets}
use Rattle.sign.specs.Inner.{sign_in, Counting, Laid}
use Rattle.sign.proofs.Packed.{sign_within}

-- an array that holds as many numbers as a count says
counting : (k n : ℕ) (l array : List ℕ) → length l ≤ k → n ≡ length l → array ≡ padded k l → Counting n array
counting k n l array h c e =
    let size : length array ≡ k = ap length e ∙ padded_length k l in
    record {
      most = omega arith;
      rest = (λ i. drop (c i) (e i)) ∙ drop_padded k l h ∙ sym (λ i. zeros (size i - c i));
    }

-- the symbols of a sign that was read
pub laid_there : (m : Meaning) (h : Head) (symbols : Symbols) → length m.prefix ≤ 32 → length m.symbols ≤ 64 → h ≡ head_of m → symbols ≡ symbols_of m → Laid h symbols
laid_there m h symbols p n k a =
    let few = ap (λ h. h.prefix_count) k in
    let count = ap (λ h. h.symbol_count) k in
    let part : (of : Spatial → ℕ) (held : List ℕ) → held ≡ padded 64 (map of m.symbols) → Counting h.symbol_count held =
    λ of held e. let same = length-map m.symbols of in counting 64 h.symbol_count (map of m.symbols) held (omega arith) (count ∙ sym same) e in
    record {
      counted = record { prefix = omega arith; symbols = omega arith };
      prefix = counting 32 h.prefix_count m.prefix symbols.prefix p few (ap (λ s. s.prefix) a);
      codes = part (λ s. s.code) symbols.codes (ap (λ s. s.codes) a);
      xs = part (λ s. s.x) symbols.xs (ap (λ s. s.xs) a);
      ys = part (λ s. s.y) symbols.ys (ap (λ s. s.ys) a);
    }

module _ (set : Charset) (s : List ℕ) (r : Answer Head Refusal) (symbols : Symbols) (v : ReadInto set s r symbols) where
  -- a sign that was read
  pub record Meant (h : Head) : Type 0 where
    pub meaning : Meaning
    pub says : sign_of set s ≡ done meaning
    pub head : h ≡ head_of meaning
    pub holds : symbols ≡ symbols_of meaning

  pub meant : (h : Head) → r ≡ Ok h → Meant h
  meant h q =
      let d = was_done head_of (sign_of set s) r h v.is q in
      record { meaning = d.0; says = d.1.0; head = sym d.1.1; holds = rw d.1.0 at v.holds }

  pub laid : (h : Head) → r ≡ Ok h → Laid h symbols
  laid h q =
      let k = meant h q in
      let w = sign_within set s k.meaning k.says in
      laid_there k.meaning h symbols w.prefix w.symbols k.head k.holds

  pub reading_refused : (e : Refusal) → r ≡ Err e → as_reading (Err e) ≡ reading_in set s
  unfolding reading_of
  reading_refused e q = ap (reading_of set) (sym (was_refused head_of (sign_of set s) r e v.is q))

  -- the sign that lies in memory
  pub reading_done : (h : Head) → r ≡ Ok h → as_reading (Ok (sign_in set h symbols)) ≡ reading_in set s
  unfolding reading_of
  reading_done h q =
      let k = meant h q in
      (λ i. as_reading (Ok (sign_in set (k.head i) (k.holds i)))) ∙ ap (reading_of set) (sym k.says)

-- a sign that lies in memory, with offsets that were put beside it
pub packed_with : (set : Charset) (h : Head) (symbols : Symbols) (p n : List ℕ) → p ≡ padded 32 (prefix_offsets set h.prefix_count)
    → n ≡ padded 64 (symbol_offsets set h.prefix_count h.symbol_count) → with_offsets p n (sign_in set h symbols) ≡ sign_in set h symbols
packed_with set h symbols p n e f i = with_offsets (e i) (f i) (sign_in set h symbols)
