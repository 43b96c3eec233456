use Rattle.std.proofs.Common.{◌≡◌, ℕ, ◌+◌, ◌-◌, ◌≤◌, List, ◌++◌, Option, None, Some, length, take, sym, ap, ◌∙◌, subst, arith, rules, le_refl, take_all, drop_at, length-take-le}
use Rattle.std.proofs.Math.Seq.{take-append_seam}
use lib.Seq.{take-add, take-append-le}
use borrow.Rule.Slice.PartMut.{put_mid, post_of}
use Rattle.std.proofs.lemmas.Slice.{take-put_mid_below}
use Rattle.std.specs.Io.KnownBytes.{Consumes}
use Rattle.input.specs.Reads.{IsFirst}
use Rattle.std.proofs.KnownBytes.{Consumes-kept, Consumes-trans, Consumes-whole}
use Rattle.input.proofs.read_input.Goals as goal

-- what was read by bytes, and then n more into the rest of the buffer
more : (n k : ℕ) (xs ys : List ℕ) → n ≤ length xs → k ≤ length ys → take n xs ++ take k ys ≡ take (n + k) (put_mid n (length xs - n) xs ys)
more n k xs ys within fits =
    let all = put_mid n (length xs - n) xs ys in
    let after = drop_at (take n xs) (ys ++ post_of n (length xs - n) xs) n (length-take-le n xs within) in
    ap (λ l. l ++ take k ys) (sym (take-put_mid_below n _ xs ys n (le_refl n) within))
    ∙ ap (λ l. take n all ++ l) (sym (ap (take k) after ∙ take-append-le k ys _ fits)) ∙ sym (take-add n k all)

-- a full buffer holds the first of the bytes
full : (a b : Option (List ℕ)) (bs : List ℕ) (room : ℕ) → length bs ≡ room → Consumes a b bs → IsFirst a room bs
full None b bs room long gave = tt
full (Some xs) None bs room long gave = absurd gave
full (Some xs) (Some ys) bs room long gave = sym (ap (λ k. take k xs) (sym long) ∙ ap (take (length bs)) gave ∙ take-append_seam bs ys)

pub returns-in-Err-clause-bytes : goal.returns-in-Err-clause-bytes
returns-in-Err-clause-bytes g c =
    let front = take-put_mid_below _ _ _ _ _ (le_refl _) c.loop-n.invariant.0 in
    subst (Consumes _ _) (sym front) (Consumes-kept _ _ _ _ c.loop-n.invariant.2 c.in-Err.ensures.bytes)

pub returns-after-loop-n-clause-bytes : goal.returns-after-loop-n-clause-bytes
returns-after-loop-n-clause-bytes g c = c.loop-n.invariant.2

pub returns-after-loop-n-clause-first : goal.returns-after-loop-n-clause-first
returns-after-loop-n-clause-first g c =
    full _ _ _ _ (length-take-le c.loop-n.n c.loop-n.buf c.loop-n.invariant.0 ∙ search rules) c.loop-n.invariant.2

pub returns-in-Ok-eq0 : goal.returns-in-Ok-eq0
returns-in-Ok-eq0 g c =
    let n = c.loop-n.n in
    let all = put_mid n (length c.loop-n.buf - n) c.loop-n.buf c.read.new.buf in
    let read = c.in-Ok-eq0.ensures in
    let none : n + c.in-Ok-eq0.field-0 ≡ n = omega arith in
    let same = more _ _ _ _ c.loop-n.invariant.0 read.bound.0 ∙ ap (λ k. take k all) none in
    let gave = subst (Consumes _ _) same (Consumes-trans _ _ _ _ _ c.loop-n.invariant.2 read.bytes.0) in
    let end = read.bytes.1 (search rules) (search rules) in
    let most = take_all (length all) (take n all) (search rules) in
    let first = Consumes-whole _ _ _ (λ xs. take n all ≡ take (length all) xs) gave end (sym most) in
    record { count = search rules; bytes = gave; first = first }

pub loop-n-preserved : goal.loop-n-preserved
loop-n-preserved g c =
    let gave = Consumes-trans _ _ _ _ _ c.loop-n.invariant.2 c.in-Ok.ensures.bytes.0 in
    (search rules, search rules, subst (Consumes _ _) (more _ _ _ _ c.loop-n.invariant.0 c.in-Ok.ensures.bound.0) gave)
