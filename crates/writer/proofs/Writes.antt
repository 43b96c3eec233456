-- How writes into lent memory compose, and what a write at its start comes to.
use Prim.Native.Nat.{ℕ, suc, ◌+◌, ◌≤◌, ◌<◌}
use mathlib.Core.Path.{◌≡◌, refl, sym, ap, subst, ◌∙◌}
use mathlib.Core.List.{List, [], ◌∷◌, ◌++◌, append_assoc, append-nil}
use native.Mathlib.Nat.{add-zero}
use native.Mathlib.Numerals.{add-one}
use native.Mathlib.Omega.{arith}
use lib.ListN.{length, take, drop, set, length-set, length-append, length-drop, take-append-drop}
use lib.Seq.{drop-drop, drop-set-lt, take-suc-set, length-take-le}
use borrow.Rule.Slice.PartMut.{put_mid, same_len_mid}
use Rattle.std.proofs.lemmas.Slice.{take-put_mid, drop-put_mid}
use Rattle.token.specs.Wrote.{Wrote}

pub wrote_none : (o : List ℕ) (a : ℕ) → a ≤ length o → Wrote o o a a []
wrote_none o a h = record { next = sym (add-zero a); room = h; same = refl; front = sym (append-nil (take a o)); rest = refl }

-- one text, and then another after it
pub wrote_more : {o p q : List ℕ} {a r t : ℕ} {s u : List ℕ} → Wrote o p a r s → Wrote p q r t u → Wrote o q a t (s ++ u)
wrote_more {o} {p} {a = a} {r} {t} {s} {u} w v =
    let l = length-append s u in
    let k : t ≡ r + length u = v.next in
    record {
      next = omega arith;
      room = omega arith;
      same = v.same ∙ w.same;
      front = v.front ∙ ap (λ (l : List ℕ). l ++ u) w.front ∙ append_assoc (take a o) s u;
      rest = v.rest ∙ rw (k, ← drop-drop (length u) r p, ← drop-drop (length u) r o) (ap (drop (length u)) w.rest);
    }

pub wrote_as : {o p : List ℕ} {a r : ℕ} {s t : List ℕ} → Wrote o p a r s → s ≡ t → Wrote o p a r t
wrote_as {o} {p} {a} {r} w e = subst (Wrote o p a r) e w

-- a text put at the start, and the memory after it as it was
pub wrote_all : {o p : List ℕ} {r : ℕ} {text : List ℕ} → Wrote o p 0 r text → (r ≡ length text) × (p ≡ text ++ drop (length text) o)
wrote_all {o} {p} {r} {text} w =
    let n : r ≡ length text = omega arith in
    (n, sym (take-append-drop r p) ∙ rw (w.front, w.rest, n))

-- bytes copied to an offset: k of them
pub wrote_bytes : (o : List ℕ) (a k : ℕ) {s m : List ℕ} → a + length s ≤ length o → k ≡ length s → m ≡ s → Wrote o (put_mid a k o m) a (a + length s) s
wrote_bytes o a k {s} {m} h e same =
    let n : length m ≡ length s = ap length same in
    record {
      next = refl;
      room = h;
      same = same_len_mid a k o m (omega (arith, length-take-le k (drop a o) (omega (arith, length-drop a o))));
      front = take-put_mid a k o m (a + length s) (omega arith) (omega arith) ∙ ap (λ t. take a o ++ t) same;
      rest = drop-put_mid a k o m (a + length s) (omega arith) (omega arith) (omega arith);
    }
