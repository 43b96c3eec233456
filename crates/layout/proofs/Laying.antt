-- Parts that were copied into an array are the whole sign.
use Prim.Native.Nat.{ℕ}
use mathlib.Core.List.{List, [], ◌++◌, append_assoc}
use mathlib.Core.Path.{◌≡◌, refl, sym, ap, ◌∙◌}
use lib.ListN.{length}
use lib.Seq.{paste}
use native.Mathlib.Omega.{arith}
use Rattle.token.specs.Padded.{zeros}
use Rattle.sign.specs.declared.Sign.{Sign}
use Rattle.sign.specs.Inner.{Cleared}
use Rattle.layout.specs.Layouts.{lead_numbers, sign_numbers}
use Rattle.layout.proofs.Copies.{Filled, filled_none, filled_more, filled_all, filled_clear}

in_order : (a b c d e f g : List ℕ) → (((((a ++ b) ++ c) ++ d) ++ e) ++ f) ++ g ≡ a ++ (b ++ (c ++ (d ++ (e ++ (f ++ g)))))
in_order a b c d e f g = simp append_assoc

-- a sign in an array of zeros: its head, array after array, and last its offsets. Each goes into places that hold zeros.
module _ (s : Sign) where
  abbrev one : List ℕ
  one = lead_numbers s

  abbrev two : List ℕ
  two = one ++ s.prefix

  abbrev three : List ℕ
  three = two ++ s.codes

  abbrev four : List ℕ
  four = three ++ s.xs

  abbrev front : List ℕ
  front = four ++ s.ys

  module _ (a : List ℕ) (ea : a ≡ paste (zeros 325) 0 one 5) (kp : length s.prefix ≡ 32) where
    fa : Filled 325 5 a one
    fa = filled_more 325 0 5 (zeros 325) a [] one (filled_none 325) ea refl (omega arith)

    pub prefix_place : Cleared a 5 (length s.prefix)
    prefix_place = filled_clear 325 5 a one fa (length s.prefix) (omega arith)

    module _ (b : List ℕ) (eb : b ≡ paste a 5 s.prefix (length s.prefix)) (kc : length s.codes ≡ 64) where
      fb : Filled 325 37 b two
      fb = filled_more 325 5 37 a b one s.prefix fa eb (omega arith) (omega arith)

      pub codes-place : Cleared b 37 (length s.codes)
      codes-place = filled_clear 325 37 b two fb (length s.codes) (omega arith)

      module _ (c : List ℕ) (ec : c ≡ paste b 37 s.codes (length s.codes)) (kx : length s.xs ≡ 64) where
        fc : Filled 325 101 c three
        fc = filled_more 325 37 101 b c two s.codes fb ec (omega arith) (omega arith)

        pub xs-place : Cleared c 101 (length s.xs)
        xs-place = filled_clear 325 101 c three fc (length s.xs) (omega arith)

        module _ (d : List ℕ) (ed : d ≡ paste c 101 s.xs (length s.xs)) (ky : length s.ys ≡ 64) where
          fd : Filled 325 165 d four
          fd = filled_more 325 101 165 c d three s.xs fc ed (omega arith) (omega arith)

          pub ys-place : Cleared d 165 (length s.ys)
          ys-place = filled_clear 325 165 d four fd (length s.ys) (omega arith)

          pub front-filled : (e : List ℕ) → e ≡ paste d 165 s.ys (length s.ys) → Filled 325 229 e front
          front-filled e ee = filled_more 325 165 229 d e four s.ys fd ee (omega arith) (omega arith)

  module _ (e : List ℕ) (fe : Filled 325 229 e front) where
    pub prefix_clear : Cleared e 229 32
    prefix_clear = filled_clear 325 229 e front fe 32 (omega arith)

    module _ (f : List ℕ) (ko : length s.prefix_offsets ≡ 32) (ef : f ≡ paste e 229 s.prefix_offsets 32) where
      prefix-filled : Filled 325 261 f (front ++ s.prefix_offsets)
      prefix-filled = let o = s.prefix_offsets in filled_more 325 229 261 e f front o fe (ef ∙ ap (paste e 229 o) (sym ko)) (omega arith) (omega arith)

      pub symbols-clear : Cleared f 261 64
      symbols-clear = filled_clear 325 261 f (front ++ s.prefix_offsets) prefix-filled 64 (omega arith)

      pub whole-sign : (g : List ℕ) → length s.symbol_offsets ≡ 64 → g ≡ paste f 261 s.symbol_offsets 64 → g ≡ sign_numbers s
      unfolding sign_numbers
      whole-sign g kr eg =
          let o = s.prefix_offsets in
          let r = s.symbol_offsets in
          let fg = filled_more 325 261 325 f g (front ++ o) r prefix-filled (eg ∙ ap (paste f 261 r) (sym kr)) (omega arith) (omega arith) in
          filled_all 325 g ((front ++ o) ++ r) fg ∙ in_order (lead_numbers s) s.prefix s.codes s.xs s.ys o r
