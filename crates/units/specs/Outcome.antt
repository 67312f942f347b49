-- [T4] No second outcome meets a contract. A contract is handed to these statements as the function's `Learnt`: what its `ensures`
-- says of the arguments, the result and the parameters at exit. κs are the lifetimes of the references among them.
-- proofs/Unique.antt of every library with code proves one of the two for each of its public functions.
use Rattle.std.specs.Prelude.{◌≡◌}

-- [T4] Two outcomes that a contract allows for the same arguments are one: the result, and the lent rows at exit. Where no row is
-- lent to be written, the result is the whole outcome.
abbrev pub OneOutcome :
    {K X : Type 0} {A R E : K → Type 0} → ((κs : K) → A κs → R κs → E κs → Type 0) → ((κs : K) → E κs → X) → Type 0
OneOutcome {K} {X} {A} {R} {E} Ensured lent =
    (κs : K) (args : A κs) (r s : R κs) (exit exit' : E κs) → Ensured κs args r exit → Ensured κs args s exit'
    → (r ≡ s) × (lent κs exit ≡ lent κs exit')

-- [T4] Where the result is a part of a row: two results that a contract allows hold the same numbers. Nothing is said of where
-- they lie.
abbrev pub OneContent :
    {K X : Type 0} {A R E : K → Type 0} → ((κs : K) → A κs → R κs → E κs → Type 0) → ((κs : K) → R κs → X) → Type 0
OneContent {K} {X} {A} {R} {E} Ensured held =
    (κs : K) (args : A κs) (r s : R κs) (exit exit' : E κs) → Ensured κs args r exit → Ensured κs args s exit'
    → held κs r ≡ held κs s
