-- Loops that read zero or more of a format into lent arrays.
use Rattle.std.specs.Prelude.{Result as Answer, Ok, Err}
use Rattle.token.specs.declared.refusal.Refusal.{Refusal}
use Rattle.token.specs.declared.refusal.Refusal.TheVariants.{TextWrong, TextShort}
use Rattle.token.specs.Token.{told}
use Prim.Native.Nat.{ℕ, ◌+◌, ◌≤◌, ◌<◌}
use mathlib.Core.List.{List, [], ◌∷◌, ◌++◌, map, map-append}
use mathlib.Core.Path.{◌≡◌, refl, sym, ap, ◌∙◌, subst}
use lib.ListN.{length, set, length-append, length-map}
use native.Mathlib.Omega.{arith}
use Rattle.format.specs.Format.{Format, many}
use Rattle.format.specs.Located.{Located, found, wrong_at, short_here, locate}
use Rattle.format.proofs.Delimited.{Fixed, solid}
use Rattle.format.proofs.At.{fixed_got}
use Rattle.format.proofs.Loop.{Walk, walk_start, walk_on, walk_stop, walk_end, walk_bad, walk_cut}
use Rattle.token.specs.Result.{outcome, on_done, of_located, result_at}
use Rattle.reader.specs.declared.arrays.Count.{Count}
use Rattle.token.specs.Padded.{padded}
use Rattle.token.proofs.PaddedLists.{padded_length, padded_put}
use Rattle.reader.specs.Inner.{count_of, Holds}

-- one more value in an array
pub put_more : {A : Type 0} (k : ℕ) (of : A → ℕ) (l : List A) (a : A) (n : ℕ) (array next : List ℕ) → array ≡ padded k (map of l) → n ≡ length l
    → next ≡ set array n (of a) → next ≡ padded k (map of (l ++ (a ∷ [])))
put_more k of l a n array next e c p =
    p ∙ (λ i. set (e i) ((c ∙ sym (length-map l of)) i) (of a)) ∙ padded_put k (map of l) (of a) ∙ ap (padded k) (sym (map-append of l (a ∷ [])))

pub held_length : {A : Type 0} (k : ℕ) (of : A → ℕ) (l : List A) (array : List ℕ) → array ≡ padded k (map of l) → length array ≡ k
held_length k of l array e = ap length e ∙ padded_length k (map of l)

-- these n were read up to i
pub record Progress {A : Type 0} (f : Format A) (s : List ℕ) (at i n : ℕ) (read : List A) : Type 0 where
  pub walk : Walk f s at i read
  pub count : n ≡ length read
  pub few : n ≤ i

-- Every way out of a loop: what it returns, and what an array holds that holds what was read, is what zero or more come to.
pub record Out {A : Type 0} (f : Format A) (s : List ℕ) (at : ℕ) (read : List A) (r : Answer Count Refusal) : Type 0 where
  pub is : outcome r ≡ on_done count_of (result_at (many f) s at)
  pub holds : (k : ℕ) (of : A → ℕ) (array : List ℕ) → array ≡ padded k (map of read) → Holds k of (result_at (many f) s at) array

pub progress_start : {A : Type 0} (f : Format A) (s : List ℕ) (at : ℕ) → at ≤ length s → Progress f s at at 0 []
progress_start f s at h = record { walk = walk_start f s at h; count = refl; few = omega arith }

module _ {A : Type 0} (w size : ℕ) (f : Format A) (x : Fixed w size f) (s : List ℕ) (at i n : ℕ) (read : List A) (p : Progress f s at i n read) where
  -- one more
  pub progress_on : (a : A) → locate f s i ≡ found a (i + size) → Progress f s at (i + size) (n + 1) (read ++ (a ∷ []))
  progress_on a e =
      let g = fixed_got w size f x s i a (i + size) e in
      record {
        walk = walk_on w f x.delimited s at i read p.walk a (i + size) e;
        count = let c = p.count in omega (arith, length-append read (a ∷ []));
        few = let c = p.few in omega (arith, solid w f x.delimited a g.1.valid, x.size a g.1.valid);
      }

  -- a value that is found takes a byte at least, and stays within the text
  pub grows : (a : A) → locate f s i ≡ found a (i + size) → (1 ≤ size) × (i + size ≤ length s)
  grows a e =
      let g = fixed_got w size f x s i a (i + size) e in
      (omega (arith, solid w f x.delimited a g.1.valid, x.size a g.1.valid), g.1.room)

  out-as : (l : Located (List A)) (r : Answer Count Refusal) → locate (many f) s at ≡ l → outcome r ≡ on_done count_of (of_located (length s) l)
      → ((k : ℕ) (of : A → ℕ) (array : List ℕ) → array ≡ padded k (map of read) → Holds k of (of_located (length s) l) array) → Out f s at read r
  out-as l r e q h = record { is = rw e q; holds = rw e h }

  out_found : locate (many f) s at ≡ found read i → Out f s at read (Ok (record { count = n; end = i }))
  out_found e = out-as (found read i) (Ok (record { count = n; end = i })) e (let c = p.count in cc) (λ k of array h. h)

  -- where no other begins, and at the end of the text
  pub out_stop : locate f s i ≡ wrong_at i → Out f s at read (Ok (record { count = n; end = i }))
  out_stop e = out_found (walk_stop w f x.delimited s at i read p.walk e)

  pub out_end : length s ≤ i → Out f s at read (Ok (record { count = n; end = i }))
  out_end h = out_found (walk_end w f x.delimited s at i read p.walk h)

  -- where one begins and is refused further on
  out_go : (l : Located A) (e : Refusal) → locate f s i ≡ l → told (length s) l ≡ Err e → (e ≡ TextWrong i → ⊥) → i < length s → Out f s at read (Err e)
  out_go (found a next) e q o z h = absurd (cc o)
  out_go (wrong_at j) e q o z h =
      let k : TextWrong j ≡ e = cc in
      let elsewhere : (j ≡ i → ⊥) = λ y. z (sym k ∙ ap TextWrong y) in
      subst (λ e. Out f s at read (Err e)) k
      (out-as (wrong_at j) (Err (TextWrong j)) (walk_bad w f x.delimited s at i read p.walk j q elsewhere) refl (λ k of array h. tt))
  out_go short_here e q o z h =
      let k : TextShort (length s) ≡ e = cc in
      subst (λ e. Out f s at read (Err e)) k
      (out-as short_here (Err (TextShort (length s))) (walk_cut w f x.delimited s at i read p.walk h q) refl (λ k of array h. tt))

  pub out_refused : (e : Refusal) → told (length s) (locate f s i) ≡ Err e → (e ≡ TextWrong i → ⊥) → i < length s → Out f s at read (Err e)
  out_refused e = out_go (locate f s i) e refl
