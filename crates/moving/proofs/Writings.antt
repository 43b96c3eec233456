-- What is written of a sign in memory whose axes are moved.
use Prim.Native.Nat.{ℕ, ◌≤◌}
use mathlib.Core.Path.{◌≡◌, sym, ap, ◌∙◌}
use mathlib.Core.Bool.{Bool, true, false}
use mathlib.Core.List.{List, ◌∷◌}
use lib.IntN.{ℤ}
use lib.ListN.{length}
use Rattle.std.specs.Prelude.{Ok, Err}
use Rattle.format.specs.Format.{every}
use Rattle.charset.specs.declared.Charset.{Charset}
use Rattle.grammar.specs.declared.Head.{Head}
use Rattle.grammar.specs.declared.Symbols.{Symbols}
use Rattle.grammar.specs.Sign.{Meaning, Valid, sign_text}
use Rattle.token.specs.declared.refusal.Refusal.{Refusal}
use Rattle.token.specs.declared.refusal.Refusal.TheVariants.{NumberOutside}
use Rattle.token.specs.Refusal.{number_outside}
use Rattle.token.specs.Result.{Result, refusal, done, on_done}
use Rattle.writer.specs.Arrays.{upto, at, meaning_in}
use Rattle.moving.specs.declared.writing.Moved.{Moved}
use Rattle.moving.specs.Moves.{stays, xs_of, ys_of, moved_meaning, moved_sign}
use Rattle.moving.specs.Inner.{moved_axis, Coded}
use Rattle.moving.proofs.Axes.{was_inside, was_outside}
use Rattle.moving.proofs.Signs.{moved_head, moved_symbols, sign_moves, sign_leaves_x, sign_leaves_y, moved_valid, axis_x, axis_y, memory_moved}

module _ (set : Charset) (dx dy : ℤ) (head : Head) (symbols : Symbols) where
  abbrev before : Meaning
  before = meaning_in head symbols

  abbrev pub moved_text : Result (List ℕ)
  moved_text = on_done (sign_text set) (moved_sign dx dy (meaning_in head symbols))

  stay_x : (t : Bool) → every (stays dx) (head.max_x ∷ upto (at symbols.xs) head.symbol_count) ≡ t → every (stays dx) (xs_of before) ≡ t
  stay_x t e = ap (every (stays dx)) (sym (axis_x dx dy head symbols)) ∙ e

  stay_y : (t : Bool) → every (stays dy) (head.max_y ∷ upto (at symbols.ys) head.symbol_count) ≡ t → every (stays dy) (ys_of before) ≡ t
  stay_y t e = ap (every (stays dy)) (sym (axis_y dx dy head symbols)) ∙ e

  -- an axis leaves
  pub leaves_x : (r : Refusal) → moved_axis dx head.max_x head.symbol_count symbols.xs ≡ Err r → (r ≡ NumberOutside) × (moved_text ≡ refusal number_outside 0)
  leaves_x r e = let left = was_outside _ _ r e in (left.1, ap (on_done (sign_text set)) (sign_leaves_x dx dy before (stay_x false left.0)))

  module _ (across : Moved) (ea : moved_axis dx head.max_x head.symbol_count symbols.xs ≡ Ok across) where
    in_x : (every (stays dx) (head.max_x ∷ upto (at symbols.xs) head.symbol_count) ≡ true) × (record { most = (moved_head dx dy head symbols).max_x; values = (moved_symbols dx dy head symbols).xs } ≡ across)
    in_x = was_inside _ _ across ea

    pub leaves_y : (r : Refusal) → moved_axis dy head.max_y head.symbol_count symbols.ys ≡ Err r → (r ≡ NumberOutside) × (moved_text ≡ refusal number_outside 0)
    leaves_y r e =
        let left = was_outside _ _ r e in
        (left.1, ap (on_done (sign_text set)) (sign_leaves_y dx dy before (stay_x true in_x.0) (stay_y false left.0)))

    -- both stay
    module _ (down : Moved) (ed : moved_axis dy head.max_y head.symbol_count symbols.ys ≡ Ok down) where
      in_y : (every (stays dy) (head.max_y ∷ upto (at symbols.ys) head.symbol_count) ≡ true) × (record { most = (moved_head dx dy head symbols).max_y; values = (moved_symbols dx dy head symbols).ys } ≡ down)
      in_y = was_inside _ _ down ed

      abbrev pub after : Meaning
      after =
          meaning_in (record { marker = head.marker; max_x = across.most; max_y = down.most; prefix_count = head.prefix_count; symbol_count = head.symbol_count })
          (record { prefix = symbols.prefix; codes = symbols.codes; xs = across.values; ys = down.values })

      module _ (hx : head.symbol_count ≤ length symbols.xs) (hy : head.symbol_count ≤ length symbols.ys) where
        is_moved : after ≡ moved_meaning dx dy before
        is_moved =
            (λ i. meaning_in (record { marker = head.marker; max_x = (sym in_x.1 i).most; max_y = (sym in_y.1 i).most; prefix_count = head.prefix_count; symbol_count = head.symbol_count })
            (record { prefix = symbols.prefix; codes = symbols.codes; xs = (sym in_x.1 i).values; ys = (sym in_y.1 i).values }))
            ∙ memory_moved dx dy head symbols hx hy

        pub still_valid : Coded before → Valid after
        still_valid c = rw is_moved (moved_valid dx dy before c (stay_x true in_x.0) (stay_y true in_y.0))

        pub text_is : done (sign_text set after) ≡ moved_text
        text_is = ap (λ m. done (sign_text set m)) is_moved ∙ ap (on_done (sign_text set)) (sym (sign_moves dx dy before (stay_x true in_x.0) (stay_y true in_y.0)))
