-- Facts about the result of a last call, which is returned, from the facts of that call.
use Rattle.std.proofs.Common.{Result, Ok, Err, IfOk, OnErr}

pub ok-by-two : {T E : Type 0} (r : Result T E) (P Q Z : T → Type 0) → IfOk r P → IfOk r Q → ((x : T) → P x → Q x → Z x) → IfOk r Z
ok-by-two (Ok x) P Q Z p q f = f x p q
ok-by-two (Err e) P Q Z p q f = tt

pub ok-by-three : {T E : Type 0} (r : Result T E) (P Q R Z : T → Type 0) → IfOk r P → IfOk r Q → IfOk r R → ((x : T) → P x → Q x → R x → Z x) → IfOk r Z
ok-by-three (Ok x) P Q R Z p q r f = f x p q r
ok-by-three (Err e) P Q R Z p q r f = tt

pub ok-by-four : {T E : Type 0} (r : Result T E) (P Q R S Z : T → Type 0) → IfOk r P → IfOk r Q → IfOk r R → IfOk r S → ((x : T) → P x → Q x → R x → S x → Z x) → IfOk r Z
ok-by-four (Ok x) P Q R S Z p q r s f = f x p q r s
ok-by-four (Err e) P Q R S Z p q r s f = tt

pub on-err : {T E : Type 0} (r : Result T E) (P : Type 0) → P → OnErr r P
on-err (Ok x) P p = tt
on-err (Err e) P p = p
