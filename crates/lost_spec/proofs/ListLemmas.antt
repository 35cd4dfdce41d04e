-- What holds of each thing of a list.
use Rattle.std.specs.Prelude.{List, [], ◌∷◌, ◌++◌}
use Rattle.std.specs.List.{AllByRecursion}
use Rattle.std.proofs.Common.{inl, inr}
use Rattle.lost_spec.specs.Laws.{SomeByRecursion}

-- what follows from P holds of each thing where P does
pub AllByRecursion-weaker : {Thing : Type 0} (P Q : Thing → Type 0) → ((x : Thing) → P x → Q x) → (xs : List Thing) → AllByRecursion P xs → AllByRecursion Q xs
AllByRecursion-weaker P Q weaker [] all = tt
AllByRecursion-weaker P Q weaker (x ∷ xs) all = (weaker x all.0, AllByRecursion-weaker P Q weaker xs all.1)

-- and of some thing where P does of some
pub SomeByRecursion-weaker : {Thing : Type 0} (P Q : Thing → Type 0) → ((x : Thing) → P x → Q x) → (xs : List Thing) → SomeByRecursion P xs → SomeByRecursion Q xs
SomeByRecursion-weaker P Q weaker [] some = some
SomeByRecursion-weaker P Q weaker (x ∷ xs) (inl p) = inl (weaker x p)
SomeByRecursion-weaker P Q weaker (x ∷ xs) (inr k) = inr (SomeByRecursion-weaker P Q weaker xs k)

-- what holds of each thing of two lists holds of each of them one after the other, and the other way round
pub AllByRecursion-append : {Thing : Type 0} (P : Thing → Type 0) (xs ys : List Thing) → AllByRecursion P xs → AllByRecursion P ys → AllByRecursion P (xs ++ ys)
AllByRecursion-append P [] ys front back = back
AllByRecursion-append P (x ∷ xs) ys front back = (front.0, AllByRecursion-append P xs ys front.1 back)

pub AllByRecursion-front : {Thing : Type 0} (P : Thing → Type 0) (xs ys : List Thing) → AllByRecursion P (xs ++ ys) → AllByRecursion P xs
AllByRecursion-front P [] ys all = tt
AllByRecursion-front P (x ∷ xs) ys all = (all.0, AllByRecursion-front P xs ys all.1)

pub AllByRecursion-back : {Thing : Type 0} (P : Thing → Type 0) (xs ys : List Thing) → AllByRecursion P (xs ++ ys) → AllByRecursion P ys
AllByRecursion-back P [] ys all = all
AllByRecursion-back P (x ∷ xs) ys all = AllByRecursion-back P xs ys all.1
