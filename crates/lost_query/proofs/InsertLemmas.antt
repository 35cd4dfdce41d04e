-- A set kept in order, as the list that `insert_by` makes.
use Rattle.std.proofs.Common.{◌≡◌, List, [], ◌∷◌, Option, None, Some, IfSome, unwrap_or, cond, IsTrue, Ordering, Less, Equal, Greater, refl, sym, ap, subst, ◌∙◌}
use Rattle.std.specs.List.{AllByRecursion}
use Rattle.std.specs.Ordering.{nat_cmp, is_lt, is_eq, match_ordering}
use Rattle.std.specs.BTreeSet.{insert_key}
use Rattle.std.specs.Cmp.Lexicographic.{slice_cmp, texts_ties}
use Rattle.lost_spec.specs.Text.{Text, is_before, same_text, insert_by}
use Rattle.lost_spec.specs.Service.{Service, is_service, service_text, child}
use Rattle.lost_spec.proofs.OrderLemmas.{AllByRecursion-insert_by}
use Rattle.lost_spec.proofs.ListLemmas.{AllByRecursion-weaker}
use Rattle.lost_urn.specs.Order.{service_cmp}
use Rattle.lost_urn.proofs.OrderLemmas.{service_cmp_by_text}
use Rattle.lost_query.specs.Children.{Children, AreServices, with_some, with_child_to}

module _ {Thing : Type 0} (text_of : Thing → Text) where
  -- a choice by the order of two texts is a choice by the two tests of `insert_by`
  by_ordering : (o : Ordering) (a b : Text) (first same later after : List Thing) → o ≡ slice_cmp nat_cmp a b → later ≡ after → match_ordering o first same later ≡ cond (is_before a b) first (cond (same_text a b) same after)
  by_ordering o a b first same later after is next =
      let by : (o : Ordering) → match_ordering o first same later ≡ cond (is_lt o) first (cond (is_eq o) same after) = elim [ Less ↦ refl | Equal ↦ refl | Greater ↦ next ] in
      by o ∙ ap (λ p. cond (is_lt p) first (cond (is_eq p) same after)) is ∙ ap (λ t. cond (is_before a b) first (cond t same after)) (sym (texts_ties a b))

  -- a key put into a set by an order that is that of the texts
  pub insert_key-insert_by : (cmp : Thing → Thing → Ordering) (x : Thing) (xs : List Thing) → AllByRecursion (λ y. cmp x y ≡ slice_cmp nat_cmp (text_of x) (text_of y)) xs → insert_key cmp xs x ≡ insert_by text_of x xs
  insert_key-insert_by cmp x [] h = refl
  insert_key-insert_by cmp x (y ∷ ys) h =
      by_ordering (cmp x y) (text_of x) (text_of y) (x ∷ y ∷ ys) (y ∷ ys) (y ∷ insert_key cmp ys x) (y ∷ insert_by text_of x ys) h.0 (ap (λ rest. y ∷ rest) (insert_key-insert_by cmp x ys h.1))

-- a service put into a set of services
pub insert_key-services : (x : Service) (xs : List Service) → IsTrue (is_service x) → AreServices xs → insert_key service_cmp xs x ≡ insert_by service_text x xs
insert_key-services x xs one all =
    insert_key-insert_by service_text service_cmp x xs (AllByRecursion-weaker (λ y. IsTrue (is_service y)) (λ y. service_cmp x y ≡ slice_cmp nat_cmp (service_text x) (service_text y)) (λ y h. sym (service_cmp_by_text x y one h)) xs all)

-- services stay services when one is put in
pub AreServices-insert_by : (x : Service) (xs : List Service) → IsTrue (is_service x) → AreServices xs → AreServices (insert_by service_text x xs)
AreServices-insert_by x xs one all = AllByRecursion-insert_by service_text (λ y. IsTrue (is_service y)) x xs one all

-- what was put in is a service, where what was found is
IsService-found : (found : Option Service) (x : Service) → found ≡ Some x → IfSome found (λ s. IsTrue (is_service s)) → IsTrue (is_service x)
IsService-found None x is one = absurd (cc)
IsService-found (Some y) x is one = subst (λ (s : Service). IsTrue (is_service s)) (ap (λ o. unwrap_or o y) is) one

module _ (found : Option Service) (x : Service) (old new : List Service) (is : found ≡ Some x) (one : IfSome found (λ s. IsTrue (is_service s))) (all : AreServices old) (keys : new ≡ insert_key service_cmp old x) where
  put_in : new ≡ insert_by service_text x old
  put_in = keys ∙ insert_key-services x old (IsService-found found x is one) all

  -- a set of services with the one that was found is the list with it
  pub with_some-insert_key : new ≡ with_some found old
  with_some-insert_key = put_in ∙ ap (λ o. with_some o old) (sym is)

  -- and a set of services
  pub AreServices-insert_key : AreServices new
  AreServices-insert_key = subst AreServices (sym put_in) (AreServices-insert_by x old (IsService-found found x is one) all)

-- children with the one that was found
pub with_child_to-found : (q : Option Service) (s : Service) (found : Option Service) (old new : List Service) (children : Children) → children ≡ record { above = q; found = old } → found ≡ child q s → new ≡ with_some found old → ◌≡◌ {A = Children} (record { above = q; found = new }) (with_child_to s children)
with_child_to-found q s found old new children was is put_in =
    let whole : List Service → Children = λ services. record { above = q; found = services } in
    ap whole (put_in ∙ ap (λ o. with_some o old) is) ∙ ap (with_child_to s) (sym was)
