-- A colour is an exact word, which no byte but a letter or a digit goes on with.
use Prim.Native.Nat.{ℕ, zero, suc, ◌+◌, ◌-◌, ◌≤◌}
use mathlib.Core.List.{List, [], ◌∷◌, ◌++◌, append-nil}
use mathlib.Core.Path.{◌≡◌, refl, sym, ap, ◌∙◌}
use mathlib.Core.Bool.{Bool, true, false, ◌&&◌, ◌||◌, and-false, and-eq-true_iff}
use mathlib.Core.Logic.{◌⊎◌, inl, inr}
use lib.Dec.{eqb, leb}
use lib.ListN.{length, length-append}
use native.Mathlib.Omega.{arith}
use borrow.Author.Tests.{le-leb, leb-true, eqb-true, eq-eqb}
use Rattle.format.specs.Format.{every}
use Rattle.format.proofs.Lawful.{Lawful}
use Rattle.format.proofs.Exact.{Exact}
use Rattle.format.proofs.Lists.{every_append, every_snoc}
use Rattle.format.proofs.Open.{Open}
use Rattle.stylinggrammar.specs.Word.{Stops}
use Rattle.stylinggrammar.specs.Styling.{letter, hexadecimal, is_colour, begins_colour, colour}
use Rattle.stylinggrammar.proofs.Tests.{one_left, one_right, which}
use Rattle.stylinggrammar.proofs.Words.{Spells, word_exact, word_open}

-- the two ways to be a colour
letters_colour : (c : List ℕ) → every letter c ≡ true → 1 ≤ length c → is_colour c ≡ true
unfolding is_colour
letters_colour c e k =
    one_left (every letter c && leb 1 (length c)) (every hexadecimal c && (eqb (length c) 3 || eqb (length c) 6))
    ((and-eq-true_iff (every letter c) (leb 1 (length c))).1 (e, le-leb 1 (length c) k))

digits_colour : (c : List ℕ) → every hexadecimal c ≡ true → (length c ≡ 3) ⊎ (length c ≡ 6) → is_colour c ≡ true
unfolding is_colour
digits_colour c e k =
    one_right (every letter c && leb 1 (length c)) (every hexadecimal c && (eqb (length c) 3 || eqb (length c) 6))
    ((and-eq-true_iff (every hexadecimal c) (eqb (length c) 3 || eqb (length c) 6)).1 (e, size k))
  where
    size : (length c ≡ 3) ⊎ (length c ≡ 6) → (eqb (length c) 3 || eqb (length c) 6) ≡ true
    size (inl z) = one_left (eqb (length c) 3) (eqb (length c) 6) (eq-eqb (length c) 3 z)
    size (inr z) = one_right (eqb (length c) 3) (eqb (length c) 6) (eq-eqb (length c) 6 z)

letters_begin : (c : List ℕ) → every letter c ≡ true → begins_colour c ≡ true
unfolding begins_colour
letters_begin c e = one_left (every letter c) (every hexadecimal c && leb (length c) 6) e

digits_begin : (c : List ℕ) → every hexadecimal c ≡ true → length c ≤ 6 → begins_colour c ≡ true
unfolding begins_colour
digits_begin c e k =
    one_right (every letter c) (every hexadecimal c && leb (length c) 6) ((and-eq-true_iff (every hexadecimal c) (leb (length c) 6)).1 (e, le-leb (length c) 6 k))

-- and what begins or is one is one of the two
pub begins_as : (c : List ℕ) → begins_colour c ≡ true → (every letter c ≡ true) ⊎ ((every hexadecimal c ≡ true) × (length c ≤ 6))
unfolding begins_colour
begins_as c e = go (which (every letter c) (every hexadecimal c && leb (length c) 6) e)
  where
    go : (every letter c ≡ true) ⊎ ((every hexadecimal c && leb (length c) 6) ≡ true) → (every letter c ≡ true) ⊎ ((every hexadecimal c ≡ true) × (length c ≤ 6))
    go (inl p) = inl p
    go (inr p) = let k = (and-eq-true_iff (every hexadecimal c) (leb (length c) 6)).0 p in inr (k.0, leb-true (length c) 6 k.1)

pub colour_as : (c : List ℕ) → is_colour c ≡ true → (every letter c ≡ true) ⊎ ((every hexadecimal c ≡ true) × (length c ≤ 6))
unfolding is_colour
colour_as c e = go (which (every letter c && leb 1 (length c)) (every hexadecimal c && (eqb (length c) 3 || eqb (length c) 6)) e)
  where
    size : (eqb (length c) 3 ≡ true) ⊎ (eqb (length c) 6 ≡ true) → length c ≤ 6
    size (inl z) = omega (arith, eqb-true (length c) 3 z)
    size (inr z) = omega (arith, eqb-true (length c) 6 z)

    go : ((every letter c && leb 1 (length c)) ≡ true) ⊎ ((every hexadecimal c && (eqb (length c) 3 || eqb (length c) 6)) ≡ true)
        → (every letter c ≡ true) ⊎ ((every hexadecimal c ≡ true) × (length c ≤ 6))
    go (inl p) = inl ((and-eq-true_iff (every letter c) (leb 1 (length c))).0 p).0
    go (inr p) =
        let k = (and-eq-true_iff (every hexadecimal c) (eqb (length c) 3 || eqb (length c) 6)).0 p in
        inr (k.0, size (which (eqb (length c) 3) (eqb (length c) 6) k.1))

no_colour : is_colour [] ≡ false
unfolding is_colour
no_colour = refl

whole : (c : List ℕ) → is_colour c ≡ true → begins_colour c ≡ true
whole c e = go (colour_as c e)
  where
    go : (every letter c ≡ true) ⊎ ((every hexadecimal c ≡ true) × (length c ≤ 6)) → begins_colour c ≡ true
    go (inl p) = letters_begin c p
    go (inr p) = digits_begin c p.0 p.1

earlier : (c d : List ℕ) → begins_colour (c ++ d) ≡ true → begins_colour c ≡ true
earlier c d e = go (begins_as (c ++ d) e)
  where
    go : (every letter (c ++ d) ≡ true) ⊎ ((every hexadecimal (c ++ d) ≡ true) × (length (c ++ d) ≤ 6)) → begins_colour c ≡ true
    go (inl p) = letters_begin c ((and-eq-true_iff (every letter c) (every letter d)).0 (sym (every_append letter c d) ∙ p)).0
    go (inr p) = digits_begin c ((and-eq-true_iff (every hexadecimal c) (every hexadecimal d)).0 (sym (every_append hexadecimal c d) ∙ p.0)).0 (omega (arith, p.1, length-append c d))

-- WHAT COMPLETES A COLOUR: a letter where nothing was read, zeros after hexadecimal digits

abbrev zeros : ℕ → List ℕ
zeros zero = []
zeros (suc n) = 48 ∷ zeros n

zeros_length : (n : ℕ) → length (zeros n) ≡ n
zeros_length zero = refl
zeros_length (suc n) = ap suc (zeros_length n)

zeros_digits : (n : ℕ) → every hexadecimal (zeros n) ≡ true
unfolding hexadecimal
zeros_digits zero = refl
zeros_digits (suc n) = zeros_digits n

a_colour : is_colour (97 ∷ []) ≡ true
unfolding is_colour letter
a_colour = refl

letters_complete : (c : List ℕ) → every letter c ≡ true → (more : List ℕ) × (is_colour (c ++ more) ≡ true)
letters_complete [] e = (97 ∷ [], a_colour)
letters_complete (a ∷ c) e = ([], ap is_colour (append-nil (a ∷ c)) ∙ letters_colour (a ∷ c) e (omega arith))

zeros_complete : (c : List ℕ) (n : ℕ) → every hexadecimal c ≡ true → (length c + n ≡ 3) ⊎ (length c + n ≡ 6) → is_colour (c ++ zeros n) ≡ true
zeros_complete c n e k = digits_colour (c ++ zeros n) (every_append hexadecimal c (zeros n) ∙ (and-eq-true_iff (every hexadecimal c) (every hexadecimal (zeros n))).1 (e, zeros_digits n)) (go k)
  where
    size : length (c ++ zeros n) ≡ length c + n
    size = length-append c (zeros n) ∙ ap (λ m. length c + m) (zeros_length n)

    go : (length c + n ≡ 3) ⊎ (length c + n ≡ 6) → (length (c ++ zeros n) ≡ 3) ⊎ (length (c ++ zeros n) ≡ 6)
    go (inl z) = inl (size ∙ z)
    go (inr z) = inr (size ∙ z)

digits_complete : (c : List ℕ) → every hexadecimal c ≡ true → length c ≤ 6 → (t : Bool) → leb (length c) 3 ≡ t → (more : List ℕ) × (is_colour (c ++ more) ≡ true)
digits_complete c e k true x =
    let h : length c ≤ 3 = leb-true (length c) 3 x in
    (zeros (3 - length c), zeros_complete c (3 - length c) e (inl (omega arith)))
digits_complete c e k false x = (zeros (6 - length c), zeros_complete c (6 - length c) e (inr (omega arith)))

completes : (c : List ℕ) → begins_colour c ≡ true → (more : List ℕ) × (is_colour (c ++ more) ≡ true)
completes c e = go (begins_as c e)
  where
    go : (every letter c ≡ true) ⊎ ((every hexadecimal c ≡ true) × (length c ≤ 6)) → (more : List ℕ) × (is_colour (c ++ more) ≡ true)
    go (inl p) = letters_complete c p
    go (inr p) = digits_complete c p.0 p.1 (leb (length c) 3) refl

pub colour_spells : Spells begins_colour is_colour
colour_spells = record { nothing = letters_begin [] refl; something = no_colour; whole = whole; earlier = earlier; completes = completes }

pub colour_exact : Exact 1 colour
colour_exact = word_exact begins_colour is_colour colour_spells

pub colour_open : Open 1 colour
colour_open = word_open begins_colour is_colour colour_spells

pub colour_lawful : Lawful 1 colour
colour_lawful = colour_open.lawful

-- WHAT ENDS A COLOUR

-- one that fails is enough
every_not : (test : ℕ → Bool) (c : List ℕ) (b : ℕ) → test b ≡ false → every test (c ++ (b ∷ [])) ≡ false
every_not test c b e = every_snoc test c b ∙ ap (λ t. every test c && t) e ∙ and-false (every test c)

not_begun : (c : List ℕ) (b : ℕ) → letter b ≡ false → hexadecimal b ≡ false → begins_colour (c ++ (b ∷ [])) ≡ false
unfolding begins_colour
not_begun c b p q = rw (every_not letter c b p, every_not hexadecimal c b q)

pub comma_stops : (c rest : List ℕ) → Stops begins_colour is_colour c (44 ∷ rest)
unfolding letter hexadecimal
comma_stops c rest = not_begun c 44 refl refl

pub underscore_stops : (c rest : List ℕ) → Stops begins_colour is_colour c (95 ∷ rest)
unfolding letter hexadecimal
underscore_stops c rest = not_begun c 95 refl refl
