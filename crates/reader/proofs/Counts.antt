-- What a function's answer says of what was read.
use Prim.Native.Nat.{ℕ}
use mathlib.Core.List.{List}
use mathlib.Core.Path.{◌≡◌, sym, ap, ◌∙◌}
use lib.ListN.{length}
use Rattle.std.specs.Prelude.{Result as Answer, Ok, Err}
use Rattle.token.specs.declared.refusal.Refusal.{Refusal}
use Rattle.token.specs.Refusal.{number_of, place_of}
use Rattle.token.specs.Result.{Result, refusal, done, outcome, on_done}
use Rattle.token.proofs.Checks.{on_done_done}
use Rattle.token.proofs.Results.{on_done_refusal}
use Rattle.reader.specs.declared.arrays.Count.{Count}
use Rattle.reader.specs.Inner.{count_of}

-- refused
pub was_refused : {A B : Type 0} (to : A → B) (x : Result A) (r : Answer B Refusal) (e : Refusal) → outcome r ≡ on_done to x → r ≡ Err e
    → x ≡ refusal (number_of e) (place_of e)
was_refused to x r e is was = on_done_refusal to x _ _ (sym is ∙ ap outcome was)

-- done
pub was_done : {A B : Type 0} (to : A → B) (x : Result A) (r : Answer B Refusal) (b : B) → outcome r ≡ on_done to x → r ≡ Ok b
    → (a : A) × ((x ≡ done a) × (to a ≡ b))
was_done to x r b is was = on_done_done to x (sym is ∙ ap outcome was)

-- read up to an offset
pub record Read {A : Type 0} (x : Result (List A × ℕ)) (c : Count) : Type 0 where
  pub symbols : List A
  pub is : x ≡ done (symbols, c.end)
  pub count : c.count ≡ length symbols

pub was_read : {A : Type 0} (x : Result (List A × ℕ)) (r : Answer Count Refusal) (c : Count) → outcome r ≡ on_done count_of x → r ≡ Ok c → Read x c
was_read x r c is was =
    let d = was_done count_of x r c is was in
    record { symbols = d.0.0; is = d.1.0 ∙ (λ i. done (d.0.0, (d.1.1 i).end)); count = sym (ap (λ k. k.count) d.1.1) }
