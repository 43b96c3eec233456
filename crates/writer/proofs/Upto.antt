-- The first n values of a function, their text in a format, and a loop that writes it value by value.
use Prim.Native.Nat.{ℕ, zero, suc, ◌+◌, ◌*◌, ◌≤◌, ◌<◌}
use mathlib.Core.Path.{◌≡◌, refl, sym, ap, ◌∙◌}
use mathlib.Core.List.{List, [], ◌∷◌, ◌++◌, map, map-append}
use mathlib.Core.Logic.{⊎_elim}
use native.Mathlib.Nat.{suc-mul, mul-le-mul_right, eq-or-lt_of_le}
use native.Mathlib.Numerals.{add-one}
use native.Mathlib.Omega.{arith}
use lib.ListN.{length, length-append, take, get_or, get_or-append}
use lib.Seq.{ext_get_or, get_or_at, get_or-take, length-take-le}
use Rattle.format.specs.Format.{Format, All, many}
use Rattle.format.proofs.Many.{write_append}
use Rattle.format.proofs.Lists.{all_parts}
use Rattle.token.specs.Wrote.{Wrote}
use Rattle.writer.proofs.Writes.{wrote_none, wrote_more, wrote_as}
use Rattle.writer.specs.Arrays.{upto, at}

pub upto_length : {A : Type 0} (g : ℕ → A) (n : ℕ) → length (upto g n) ≡ n
unfolding upto
upto_length g zero = refl
upto_length g (suc n) =
    let e = length-append (upto g n) (g n ∷ []) in
    let h = upto_length g n in
    omega arith

pub map_upto : {A B : Type 0} (h : A → B) (g : ℕ → A) (n : ℕ) → map h (upto g n) ≡ upto (λ i. h (g i)) n
unfolding upto
map_upto h g zero = refl
map_upto h g (suc n) = map-append h (upto g n) (g n ∷ []) ∙ ap (λ l. l ++ (h (g n) ∷ [])) (map_upto h g n)

pub upto_at : {A : Type 0} (g : ℕ → A) (n i : ℕ) (d : A) → i < n → get_or (upto g n) i d ≡ g i
unfolding upto
upto_at g zero i d h = absurd (omega arith)
upto_at g (suc n) i d h =
    ⊎_elim
    (λ e. ap (λ j. get_or (upto g n ++ (g n ∷ [])) j d) e ∙ get_or_at (upto g n) (g n) [] d n (upto_length g n) ∙ ap g (sym e))
    (λ k. get_or-append (upto g n) (g n ∷ []) d i (rw (upto_length g n) k) ∙ upto_at g n i d k)
    (eq-or-lt_of_le (last n i h))
  where
    last : (n i : ℕ) → i < suc n → i ≤ n
    last n i h = omega arith

-- the first values of a function are a list where they are its values
pub upto_is : {A : Type 0} (g : ℕ → A) (l : List A) (d : A) → ((i : ℕ) → i < length l → g i ≡ get_or l i d) → upto g (length l) ≡ l
upto_is g l d same =
    let e = upto_length g (length l) in
    ext_get_or d (upto g (length l)) l e (λ i h. let k : i < length l = omega arith in upto_at g (length l) i d k ∙ same i k)

-- the first n of a list
pub upto_take : (l : List ℕ) (n : ℕ) → n ≤ length l → upto (at l) n ≡ take n l
upto_take l n h =
    let e = length-take-le n l h in
    ap (upto (at l)) (sym e) ∙ upto_is (at l) (take n l) 0 (λ i k. let b : i < n = omega arith in sym (get_or-take n l i 0 b))

-- what holds of a list holds of each of its values
pub all_at : (P : ℕ → Type 0) (l : List ℕ) → All P l → (i : ℕ) → i < length l → P (at l i)
all_at P [] ok i h = absurd (omega arith)
all_at P (a ∷ l) ok zero h = ok.0
all_at P (a ∷ l) ok (suc i) h = all_at P l ok.1 i (omega arith)

-- what holds of the first n holds of each of them
pub all_upto : {A : Type 0} (P : A → Type 0) (g : ℕ → A) (n : ℕ) → All P (upto g n) → (i : ℕ) → i < n → P (g i)
unfolding upto
all_upto P g zero ok i h = absurd (omega arith)
all_upto P g (suc n) ok i h =
    let k = all_parts P (upto g n) (g n ∷ []) ok in
    let le : i ≤ n = omega arith in
    ⊎_elim (λ e. rw e k.1.0) (λ lt. all_upto P g n k.0 i lt) (eq-or-lt_of_le le)

module _ {A : Type 0} (f : Format A) where
  upto_more : (g : ℕ → A) (i : ℕ) → (many f).write (upto g i) ++ (many f).write (g i ∷ []) ≡ (many f).write (upto g (i + 1))
  unfolding upto
  upto_more g i = rw add-one (sym (write_append f (upto g i) (g i ∷ [])))

  -- where every value takes k bytes
  pub list_size : {k : ℕ} → ((a : A) → length (f.write a) ≡ k) → (l : List A) → length ((many f).write l) ≡ length l * k
  list_size x [] = omega arith
  list_size {k} x (a ∷ l) = omega (arith, length-append (f.write a) ((many f).write l), x a, list_size x l, suc-mul (length l) k)

  pub upto_size : {k : ℕ} → ((a : A) → length (f.write a) ≡ k) → (g : ℕ → A) (n : ℕ) → length ((many f).write (upto g n)) ≡ n * k
  upto_size {k} x g n = list_size x (upto g n) ∙ ap (λ m. m * k) (upto_length g n)

-- A loop has written the first i of n values from a up to r, and so made the memory o into p.
pub record Putting {A : Type 0} (f : Format A) (g : ℕ → A) (n : ℕ) (o p : List ℕ) (a r i : ℕ) : Type 0 where
  pub most : i ≤ n
  pub wrote : Wrote o p a r ((many f).write (upto g i))

module _ {A : Type 0} (f : Format A) (g : ℕ → A) where
  pub putting_none : (n : ℕ) (o : List ℕ) (a : ℕ) → a ≤ length o → Putting f g n o o a a 0
  unfolding upto
  putting_none n o a h = record { most = omega arith; wrote = wrote_none o a h }

  pub putting_more : {n : ℕ} {o p q : List ℕ} {a r t i : ℕ} → Putting f g n o p a r i → i < n → Wrote p q r t ((many f).write (g i ∷ [])) → Putting f g n o q a t (i + 1)
  putting_more {i = i} w h v = record { most = omega arith; wrote = wrote_as (wrote_more w.wrote v) (upto_more f g i) }

  pub putting_all : {n : ℕ} {o p : List ℕ} {a r i : ℕ} → Putting f g n o p a r i → n ≤ i → Wrote o p a r ((many f).write (upto g n))
  putting_all {n} {i = i} w h =
      let e : i ≡ n = omega arith in
      wrote_as w.wrote (ap (λ k. (many f).write (upto g k)) e)
  -- where they are a list's

module _ (f : Format ℕ) where
  pub putting_list : (l : List ℕ) {o p : List ℕ} {a r i : ℕ} → Putting f (at l) (length l) o p a r i → length l ≤ i → Wrote o p a r ((many f).write l)
  putting_list l w h = wrote_as (putting_all f (at l) w h) (ap (many f).write (upto_is (at l) l 0 (λ i k. refl)))

module _ {A : Type 0} (f : Format A) (g : ℕ → A) where
  -- room for one more
  pub putting_room : {k n : ℕ} {o p : List ℕ} {a r i : ℕ}
      → ((b : A) → length (f.write b) ≡ k) → a + n * k ≤ length o → Putting f g n o p a r i → i < n → r + k ≤ length p
  putting_room {k} {n} {i = i} x h w l =
      let e = upto_size f x g i in
      let m : suc i * k ≤ n * k = mul-le-mul_right k (omega arith) in
      let d = suc-mul i k in
      let z = w.wrote in
      omega arith
