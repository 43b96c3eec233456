-- The loop over further alternatives: one law for each way on or out.
use Prim.Native.Nat.{ℕ, ◌+◌, ◌*◌, ◌≤◌, ◌<◌}
use mathlib.Core.List.{List, [], ◌∷◌, ◌++◌}
use mathlib.Core.Path.{◌≡◌, refl, sym, ap, ◌∙◌}
use mathlib.Core.Bool.{Bool}
use lib.ListN.{length, length-append}
use native.Mathlib.Omega.{arith}
use Rattle.format.specs.Format.{many}
use Rattle.format.specs.Located.{found, locate}
use Rattle.std.specs.Prelude.{Result as Answer, Ok, Err, Option as Optional}
use Rattle.std.specs.Option.{option_or}
use Rattle.token.specs.declared.refusal.Refusal.{Refusal}
use Rattle.token.specs.declared.refusal.Refusal.TheVariants.{TextWrong}
use Rattle.format.proofs.Open.{Open}
use Rattle.querygrammar.specs.declared.Edition.{Edition}
use Rattle.querygrammar.specs.Spelling.{spelling}
use Rattle.queryitem.specs.Pieces.{answered}
use Rattle.queryitem.proofs.Chains.{fails_answered}
use Rattle.querypart.specs.declared.alternatives.Listed.{Listed}
use Rattle.querypart.specs.Inner.{Sort, other, OneIn, all_few, listed_all, slot_of, AllIn}
use Rattle.querypart.proofs.Walks.{slot_row, one_found, Walked, walked-grow, walked_on, walked_none, walked_stop, walked_bad, walked_end}
use Rattle.querypart.proofs.Lists.{other_open}

pub record OthersInv (e : Edition) (boxed : Bool) (s : List ℕ) (at from n i : ℕ) (first : Optional ℕ) (row : ℕ) (o p : List ℕ) : Type 0 where
  pub done : List (spelling e).Says
  pub walked : Walked (other e boxed) (λ l. length l ≤ 7) s at from n i first row done o p
  pub bound : n ≤ 7 → row ≤ from + 3 * n

module _ (e : Edition) (boxed : Bool) (s : List ℕ) (at from : ℕ) where
  abbrev k : Sort
  k = other e boxed

  abbrev g : Open 1 k.format
  g = other_open e boxed

  abbrev Fits : List (spelling e).Says → Type 0
  Fits l = length l ≤ 7

  module _ (n i : ℕ) (first : Optional ℕ) (row : ℕ) (o p : List ℕ) (v : OthersInv e boxed s at from n i first row o p) where
    others-found : locate (many k.format) s at ≡ found v.done i → i ≤ length s → AllIn k 7 s at from (Ok (record { next = i; count = n; reversed = first })) o p
    others-found x h = record {
      is = (λ j. Ok (record { next = i; count = v.walked.count j; reversed = v.walked.noticed j })) ∙ ap (answered (listed_all k at) (length s)) (sym x);
      size = v.walked.size;
      below = λ l next q. let b = v.walked.below in let c = v.walked.count in omega (arith, ap length (same_found (sym x ∙ q)));
      holds = λ l next q few many.
          let same : v.done ≡ l = same_found (sym x ∙ q) in
          rw same at (v.walked.held (omega (arith, ap length same)) (ap (all_few k) same ∙ many)).0;
    }
      where
        same_found : {A : Type 0} {a b : A} {i j : ℕ} → found a i ≡ found b j → a ≡ b
        same_found e = cc

    pub others_end : length s ≤ i → AllIn k 7 s at from (Ok (record { next = i; count = n; reversed = first })) o p
    others_end h = others-found (walked_end k g Fits s at from n i first row v.done o p v.walked h) v.walked.walk.inside

    module _ (slot : ℕ) (r : Answer Listed Refusal) (q : List ℕ) (w : OneIn k s i slot r p q) where
      pub others-grow : (m : Listed) → r ≡ Ok m → (i < m.next) × (m.next ≤ length s)
      others-grow = walked-grow k g Fits s at from n i first row v.done o p v.walked slot r q w

      pub others-on : (m : Listed) (z : r ≡ Ok m) → slot ≡ slot_of n 7 row from → (now : Optional ℕ) → now ≡ option_or first m.reversed → OthersInv e boxed s at from (n + 1) m.next now (slot + 3) o q
      others-on m z x now y = record {
        done = v.done ++ ((one_found k s i slot r p q w m z).says ∷ []);
        walked = walked_on k g Fits s at from n i first row v.done o p v.walked slot r q w m z
            (λ a m. let c = v.walked.count in (omega (arith, length-append v.done (a ∷ [])), λ e. x ∙ slot_row n 7 row from (omega (arith, length-append v.done (a ∷ []))))) now y (slot + 3) (λ a h j. refl);
        bound = λ h. omega (arith, x ∙ slot_row n 7 row from (omega arith), v.bound (omega arith));
      }

      pub others-stop : (e : Refusal) → r ≡ Err e → e ≡ TextWrong i → AllIn k 7 s at from (Ok (record { next = i; count = n; reversed = first })) o q
      others-stop e z x =
          rw (w.still (walked_none k g Fits s at from n i first row v.done o p v.walked slot r q w e z x))
          (others-found (walked_stop k g Fits s at from n i first row v.done o p v.walked slot r q w e z x) v.walked.walk.inside)

      pub others-bad : i < length s → (e : Refusal) → r ≡ Err e → (e ≡ TextWrong i → ⊥) → AllIn k 7 s at from (Err e) o q
      others-bad h e z x =
          let l = walked_bad k g Fits s at from n i first row v.done o p v.walked slot r q w e z h x in record {
            is = fails_answered (listed_all k at) (length s) (locate (many k.format) s at) e l;
            size = w.size ∙ v.walked.size;
            below = λ d next u. absurd (rw u at l);
            holds = λ d next u. absurd (rw u at l);
          }
