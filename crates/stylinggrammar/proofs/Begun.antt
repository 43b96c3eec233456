-- Beginnings of styled texts: those of the sign, and after a whole sign and a dash those of the styling.
use Prim.Native.Nat.{ℕ, ◌+◌, ◌≤◌}
use mathlib.Core.List.{List, [], ◌∷◌, ◌++◌, append_assoc, append-nil}
use mathlib.Core.Path.{◌≡◌, refl, sym, ap, ◌∙◌}
use mathlib.Core.Bool.{Bool, true, false}
use mathlib.Core.Option.{none}
use lib.Dec.{ltb}
use lib.ListN.{length, take, drop, length-append, take-append-drop}
use lib.Seq.{take_at, take_all, length-take-le}
use native.Mathlib.Omega.{arith}
use borrow.Author.Tests.{ltb-true, ltb-false}
use Rattle.format.specs.Format.{Format}
use Rattle.format.specs.Places.{Begins, Formed}
use Rattle.format.proofs.Lists.{cons_head, cons_tail}
use Rattle.stylinggrammar.specs.Styling.{Spelling, parts, of_spelling, styling}
use Rattle.stylinggrammar.specs.Styled.{styled}
use Rattle.stylinggrammar.specs.StyledLaws.{Dashed}
use Rattle.stylinggrammar.proofs.Dashes.{Plain, same_front}

-- the styling that says nothing is a dash
abbrev bare : Spelling
bare = record { colorize = none; padding = none; background = none; detail = none; zoom = none; symbols = none }

-- a styling after its dash
abbrev pub body : Spelling → List ℕ
body t = parts.write (of_spelling t)

-- two beginnings of one text: one within the other
data Meets (a b x more : List ℕ) : Type 0 where
  within : (m : List ℕ) → a ≡ x ++ m → Meets a b x more
  beyond : (y : List ℕ) → x ≡ a ++ y → b ≡ y ++ more → Meets a b x more

meets : (a b x more : List ℕ) → a ++ b ≡ x ++ more → Meets a b x more
meets [] b x more e = beyond x refl e
meets (c ∷ a) b [] more e = within (c ∷ a) refl
meets (c ∷ a) b (d ∷ x) more e = go (meets a b x more (cons_tail e))
  where
    z : c ≡ d
    z = cons_head e

    go : Meets a b x more → Meets (c ∷ a) b (d ∷ x) more
    go (within m p) = within m (λ i. z i ∷ p i)
    go (beyond y p q) = beyond y (λ i. sym z i ∷ p i) q

module _ {A : Type 0} (f : Format A) (plain : (v : A) → f.Valid v → Plain (f.write v)) where
  -- both parts are told apart
  pub parts_same : (m k : A) (b c : List ℕ) → f.Valid m → f.Valid k → f.write m ++ (45 ∷ b) ≡ f.write k ++ (45 ∷ c) → (f.write m ≡ f.write k) × (b ≡ c)
  parts_same m k b c p q e = same_front (f.write m) b (f.write k) c (plain m p) (plain k q) e

  pub sign_begins : (x : List ℕ) → Begins f x → Begins (styled f) x
  sign_begins x b = record {
    says = (b.says, bare);
    valid = (b.valid, (tt, (tt, (tt, (tt, (tt, tt))))));
    more = b.more ++ styling.write bare;
    is = ap (λ k. k ++ styling.write bare) b.is ∙ append_assoc x b.more (styling.write bare);
  }

  -- AFTER A WHOLE SIGN AND A DASH
  module _ (m : A) (ok : f.Valid m) where
    pub after_begins : (y : List ℕ) → Begins styling y → Begins (styled f) (f.write m ++ y)
    after_begins y k = record {
      says = (m, k.says);
      valid = (ok, k.valid);
      more = k.more;
      is = ap (λ u. f.write m ++ u) k.is ∙ sym (append_assoc (f.write m) y k.more);
    }

    pub begins_after : (y : List ℕ) → Begins (styled f) (f.write m ++ (45 ∷ y)) → Begins styling (45 ∷ y)
    begins_after y k =
        let v = k.says in
        let z = parts_same v.0 m (body v.1) (y ++ k.more) k.valid.0 ok (k.is ∙ append_assoc (f.write m) (45 ∷ y) k.more) in
        record { says = v.1; valid = k.valid.1; more = k.more; is = ap (λ u. 45 ∷ u) z.1 }

    -- the dash itself may stand there
    pub dash_begins : Begins (styled f) (f.write m ++ (45 ∷ []))
    dash_begins = after_begins (45 ∷ []) (record { says = bare; valid = (tt, (tt, (tt, (tt, (tt, tt))))); more = []; is = refl })

    pub formed_after : (b : List ℕ) → Formed (styled f) (f.write m ++ (45 ∷ b)) → Formed styling (45 ∷ b)
    formed_after b k =
        let v = k.says in
        let z = parts_same m v.0 b (body v.1) ok k.valid.0 k.is in
        record { says = v.1; valid = k.valid.1; is = ap (λ u. 45 ∷ u) z.1 }

    -- the first bytes of the text
    pub front_take : (s : List ℕ) (q : ℕ) → take (length (f.write m) + q) (f.write m ++ s) ≡ f.write m ++ take q s
    front_take s q = go (ltb (length s) q) refl
      where
        go : (t : Bool) → ltb (length s) q ≡ t → take (length (f.write m) + q) (f.write m ++ s) ≡ f.write m ++ take q s
        go true h =
            let k : length s ≤ q = omega (arith, ltb-true (length s) q h) in
            take_all (length (f.write m) + q) (f.write m ++ s) (omega (arith, length-append (f.write m) s, k)) ∙ ap (λ u. f.write m ++ u) (sym (take_all q s k))
        go false h =
            let k : q ≤ length s = ltb-false (length s) q h in
            let e : f.write m ++ s ≡ (f.write m ++ take q s) ++ drop q s =
            ap (λ u. f.write m ++ u) (sym (take-append-drop q s)) ∙ sym (append_assoc (f.write m) (take q s) (drop q s)) in
            ap (take (length (f.write m) + q)) e
            ∙ take_at (f.write m ++ take q s) (drop q s) (length (f.write m) + q)
            (length-append (f.write m) (take q s) ∙ ap (λ n. length (f.write m) + n) (length-take-le q s k))

  -- WITHOUT SUCH A DASH a beginning of a styled text that the text has is one of a sign
  module _ (text : List ℕ) (never : Dashed f text → ⊥) where
    pub begins_sign : (j : ℕ) → Begins (styled f) (take j text) → Begins f (take j text)
    begins_sign j k = go (meets (f.write k.says.0) (styling.write k.says.1) (take j text) k.more k.is)
      where
        go : Meets (f.write k.says.0) (styling.write k.says.1) (take j text) k.more → Begins f (take j text)
        go (within u e) = record { says = k.says.0; valid = k.valid.0; more = u; is = e }
        go (beyond [] e z) = record { says = k.says.0; valid = k.valid.0; more = []; is = sym (append-nil (take j text) ∙ e ∙ append-nil (f.write k.says.0)) }
        go (beyond (c ∷ y) e z) =
            let h : ◌≡◌ {A = ℕ} 45 c = cons_head z in
            absurd
            (never
            (record {
              says = k.says.0;
              valid = k.valid.0;
              after = y ++ drop j text;
              is = sym (take-append-drop j text) ∙ ap (λ u. u ++ drop j text) (e ∙ ap (λ u. f.write k.says.0 ++ (u ∷ y)) (sym h))
                  ∙ append_assoc (f.write k.says.0) (45 ∷ y) (drop j text);
            }))

    pub undashed_unformed : Formed (styled f) text → ⊥
    undashed_unformed k = never (record { says = k.says.0; valid = k.valid.0; after = body k.says.1; is = k.is })
