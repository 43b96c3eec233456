-- One unit that stands for a number of lo to hi is lawful and exact, where of and to are inverse there.
use Prim.Native.Nat.{ℕ, ◌≤◌, ◌<◌}
use mathlib.Core.List.{List, [], ◌++◌}
use mathlib.Core.Path.{◌≡◌, refl, sym, ap, ◌∙◌}
use mathlib.Core.Bool.{Bool, true, false}
use lib.Dec.{ltb}
use lib.ListN.{length, drop, take, length-append, take-append-drop}
use lib.Seq.{length-take-le, take_at, drop_at}
use native.Mathlib.Omega.{arith}
use borrow.Author.Tests.{ltb-true, ltb-false, lt-ltb, le-ltb}
use Rattle.format.specs.Format.{value, other, short, Format, choose, within, unit}
use Rattle.format.proofs.Lawful.{Says, Lawful}
use Rattle.format.proofs.Exact.{Strange, Exact, Fails}

-- of reads a unit as a number, and to writes it
pub record Coding (w : ℕ) (of : List ℕ → ℕ) (to : ℕ → List ℕ) (lo hi : ℕ) : Type 0 where
  pub least : lo ≤ hi
  pub size : (v : ℕ) → lo ≤ v → v ≤ hi → length (to v) ≡ w
  pub reads : (v : ℕ) → lo ≤ v → v ≤ hi → of (to v) ≡ v
  pub writes : (u : List ℕ) → length u ≡ w → lo ≤ of u → of u ≤ hi → to (of u) ≡ u

module _ (w : ℕ) (of : List ℕ → ℕ) (to : ℕ → List ℕ) (lo hi : ℕ) where
  reads_unit : (u t : List ℕ) → length u ≡ w → (unit w of to lo hi).read (u ++ t) ≡ within lo hi (of u) t
  reads_unit u t e =
      rw (le-ltb (length (u ++ t)) w (omega (arith, e, length-append u t)), take_at u t w e, drop_at u t w e) refl

  pub unit_below : (u t : List ℕ) → length u ≡ w → of u < lo → (unit w of to lo hi).read (u ++ t) ≡ other
  unit_below u t e p = reads_unit u t e ∙ rw (lt-ltb (of u) lo p) refl

  pub unit_above : (u t : List ℕ) → length u ≡ w → lo ≤ of u → hi < of u → (unit w of to lo hi).read (u ++ t) ≡ other
  unit_above u t e q p = reads_unit u t e ∙ rw (le-ltb (of u) lo q, lt-ltb hi (of u) p) refl

  fits : (u t : List ℕ) → length u ≡ w → lo ≤ of u → of u ≤ hi → (unit w of to lo hi).read (u ++ t) ≡ value (of u) t
  fits u t e q p = reads_unit u t e ∙ rw (le-ltb (of u) lo q, le-ltb hi (of u) p) refl

module _ (w : ℕ) (of : List ℕ → ℕ) (to : ℕ → List ℕ) (lo hi : ℕ) (c : Coding w of to lo hi) where
  abbrev h : Format ℕ
  h = unit w of to lo hi

  -- of the first unit of a text, by whether it is there, below lo, above hi
  says_go : (text : List ℕ) (r p q : Bool) → ltb (length text) w ≡ r → ltb (of (take w text)) lo ≡ p → ltb hi (of (take w text)) ≡ q
      → Says h text (choose r short (choose p other (choose q other (value (of (take w text)) (drop w text)))))
  says_go text true p q z x y = tt
  says_go text false true q z x y = tt
  says_go text false false true z x y = tt
  says_go text false false false z x y =
      let u = take w text in
      let a : lo ≤ of u = ltb-false (of u) lo x in
      let b : of u ≤ hi = ltb-false hi (of u) y in
      let e : length u ≡ w = length-take-le w text (ltb-false (length text) w z) in
      (sym (take-append-drop w text) ∙ ap (λ k. k ++ drop w text) (sym (c.writes u e a b)), (a, b), tt)

  pub unit_lawful : Lawful w (unit w of to lo hi)
  unit_lawful = record {
    whole = λ v ok. (1, omega (arith, c.size v ok.0 ok.1));
    reads = λ v rest ok p.
        let e = c.reads v ok.0 ok.1 in
        fits w of to lo hi (to v) rest (c.size v ok.0 ok.1) (rw e ok.0) (rw e ok.1) ∙ ap (λ k. value k rest) e;
    says = λ text. says_go text (ltb (length text) w) (ltb (of (take w text)) lo) (ltb hi (of (take w text))) refl refl refl;
  }

  strange : (text : List ℕ) → ltb (length text) w ≡ false → ((t : List ℕ) → h.read (take w text ++ t) ≡ other) → Strange w h text
  strange text z stays = record {
    here = take w text;
    tail = drop w text;
    is = sym (take-append-drop w text);
    long = length-take-le w text (ltb-false (length text) w z);
    stays = stays;
  }

  fails_go : (text : List ℕ) (r p q : Bool) → ltb (length text) w ≡ r → ltb (of (take w text)) lo ≡ p → ltb hi (of (take w text)) ≡ q
      → Fails w h text (choose r short (choose p other (choose q other (value (of (take w text)) (drop w text)))))
  fails_go text true p q z x y = record {
    front = [];
    bit = text;
    is = refl;
    less = ltb-true (length text) w z;
    whole = (0, omega arith);
    begins = record { says = lo; valid = (omega arith, c.least); more = to lo; is = refl };
  }
  fails_go text false true q z x y =
      let u = take w text in
      let e : length u ≡ w = length-take-le w text (ltb-false (length text) w z) in
      strange text z λ t. unit_below w of to lo hi u t e (ltb-true (of u) lo x)
  fails_go text false false true z x y =
      let u = take w text in
      let e : length u ≡ w = length-take-le w text (ltb-false (length text) w z) in
      strange text z λ t. unit_above w of to lo hi u t e (ltb-false (of u) lo x) (ltb-true hi (of u) y)
  fails_go text false false false z x y = tt

  pub unit_exact : 1 ≤ w → Exact w (unit w of to lo hi)
  unit_exact wide = record {
    lawful = unit_lawful;
    wide = wide;
    some = record { says = lo; valid = (omega arith, c.least); more = to lo; is = refl };
    keeps = λ v x t u ok k p. tt;
    fails = λ text. fails_go text (ltb (length text) w) (ltb (of (take w text)) lo) (ltb hi (of (take w text))) refl refl refl;
  }
