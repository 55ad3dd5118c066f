-- Members of lists, lists without repetition, and the pigeonhole principle on them.
use mathlib.Core.Path.{◌≡◌, refl, sym, ap, ◌∙◌, subst}
use mathlib.Core.Logic.{◌⊎◌, inl, inr}
use mathlib.Core.List.Memᴰ.{append_cases as in_append}
use mathlib.Core.List.Memᴰ.{append_left as in_left}
use mathlib.Core.List.Memᴰ.{append_right as in_right}
use mathlib.Core.List.Memᴰ.{cases_cons as in_cons}
use mathlib.Core.List.Memᴰ.{cast as in_cast}
use mathlib.Core.List.Memᴰ.{head as here}
use mathlib.Core.List.Memᴰ.{map as in_map}
use mathlib.Core.List.Memᴰ.{not-nil as in_nil}
use mathlib.Core.List.Memᴰ.{of_map}
use mathlib.Core.List.Memᴰ.{tail as there}
use mathlib.Core.List.{List, [], ◌∷◌, ◌++◌, map, flat_map, Memᴰ as In}
use Prim.Native.Nat.{suc, ◌≤◌}
use native.Mathlib.Omega.{arith}
use lib.ListN.{length}
use Rattle.hrg.specs.Agenda.{Distinct, none, more}

-- The list zs is ys without one place that holds a.
pub data Removed {A : Type 0} (a : A) : List A → List A → Type 0 where
  first : {y : A} {ys : List A} → a ≡ y → Removed a (y ∷ ys) ys
  later : {y : A} {ys zs : List A} → Removed a ys zs → Removed a (y ∷ ys) (y ∷ zs)

module _ {A : Type 0} where
  pub remove : {a : A} {ys : List A} → In a ys → (zs : List A) × Removed a ys zs
  remove (here {xs = xs} e) = (xs, first e)
  remove (there {x = x} m) = let r = remove m in (x ∷ r.0, later r.1)

  pub removed_in : {a : A} {ys zs : List A} → Removed a ys zs → In a ys
  removed_in (first e) = here e
  removed_in (later r) = there (removed_in r)

  pub removed_length : {a : A} {ys zs : List A} → Removed a ys zs → length ys ≡ suc (length zs)
  removed_length (first e) = refl
  removed_length (later r) = ap suc (removed_length r)

  pub removed_rest : {a i : A} {ys zs : List A} → Removed a ys zs → In i zs → In i ys
  removed_rest (first e) m = there m
  removed_rest (later r) (here e) = here e
  removed_rest (later r) (there m) = there (removed_rest r m)

  pub removed_cases : {a i : A} {ys zs : List A} → Removed a ys zs → In i ys → (i ≡ a) ⊎ In i zs
  removed_cases (first e) (here q) = inl (q ∙ sym e)
  removed_cases (first e) (there m) = inr m
  removed_cases (later r) (here q) = inr (here q)
  removed_cases {a} {i} (later {y = y} {zs = zs} r) (there m) = go (removed_cases r m)
    where
      go : (i ≡ a) ⊎ In i zs → (i ≡ a) ⊎ In i (y ∷ zs)
      go (inl q) = inl q
      go (inr m) = inr (there m)

  pub distinct_tail : {a : A} {xs : List A} → Distinct (a ∷ xs) → Distinct xs
  distinct_tail (more f d) = d

  pub distinct_head : {a : A} {xs : List A} → Distinct (a ∷ xs) → In a xs → ⊥
  distinct_head (more f d) = f

  pub distinct_left : (xs ys : List A) → Distinct (xs ++ ys) → Distinct xs
  distinct_left [] ys d = none
  distinct_left (x ∷ xs) ys d = more (λ m. distinct_head d (in_left ys m)) (distinct_left xs ys (distinct_tail d))

  pub distinct_right : (xs ys : List A) → Distinct (xs ++ ys) → Distinct ys
  distinct_right [] ys d = d
  distinct_right (x ∷ xs) ys d = distinct_right xs ys (distinct_tail d)

  pub distinct_apart : {i : A} {xs ys : List A} → Distinct (xs ++ ys) → In i xs → In i ys → ⊥
  distinct_apart d (here {xs = xs} e) m = distinct_head d (in_cast (sym e) (in_right xs m))
  distinct_apart d (there l) m = distinct_apart (distinct_tail d) l m

  pub distinct_append : (xs : List A) {ys : List A} → Distinct xs → Distinct ys → ((i : A) → In i xs → In i ys → ⊥) → Distinct (xs ++ ys)
  distinct_append [] c d f = d
  distinct_append (x ∷ xs) {ys} c d f = more (λ m. go (in_append xs m)) (distinct_append xs (distinct_tail c) d (λ i m. f i (there m)))
    where
      go : In x xs ⊎ In x ys → ⊥
      go (inl m) = distinct_head c m
      go (inr m) = f x (here refl) m

  -- the pigeonhole principle
  pub distinct_le : {xs ys : List A} → Distinct xs → ((i : A) → In i xs → In i ys) → length xs ≤ length ys
  distinct_le none f = omega arith
  distinct_le {ys = ys} (more {i = x} {is = xs} n d) f =
      let r = remove (f x (here refl)) in
      omega (arith, removed_length r.1, distinct_le d (λ i m. go r.0 i m (removed_cases r.1 (f i (there m)))))
    where
      go : (zs : List A) (i : A) → In i xs → (i ≡ x) ⊎ In i zs → In i zs
      go zs i m (inl e) = absurd (n (in_cast (sym e) m))
      go zs i m (inr k) = k

  pub distinct_equal : {xs ys : List A} → Distinct xs → Distinct ys → ((i : A) → In i xs → In i ys) → ((i : A) → In i ys → In i xs) → length xs ≡ length ys
  distinct_equal c d f g = omega (arith, distinct_le c f, distinct_le d g)

-- Where no image comes twice, the image tells the member.
module _ {A B : Type 0} (f : A → B) where
  pub map_one : {a b : A} {xs : List A} → Distinct (map f xs) → In a xs → In b xs → f a ≡ f b → a ≡ b
  map_one d (here p) (here q) e = p ∙ sym q
  map_one d (here p) (there m) e = absurd (distinct_head d (in_cast (ap f (sym p) ∙ e) (in_map f m)))
  map_one d (there l) (here q) e = absurd (distinct_head d (in_cast (ap f (sym q) ∙ sym e) (in_map f l)))
  map_one d (there l) (there m) e = map_one (distinct_tail d) l m e

  pub map_apart : {a b : A} {xs ys : List A} → Distinct (map f (xs ++ ys)) → In a xs → In b ys → f a ≡ f b → ⊥
  map_apart d (here {xs = xs} p) m e = distinct_head d (in_cast (ap f (sym p) ∙ e) (in_map f (in_right xs m)))
  map_apart d (there l) m e = map_apart (distinct_tail d) l m e

  pub removed_distinct : {a : A} {ys zs : List A} → Removed a ys zs → Distinct (map f ys) → Distinct (map f zs)
  removed_distinct (first e) d = distinct_tail d
  removed_distinct (later {zs = zs} r) d = more (λ m. let o = of_map f zs m in distinct_head d (in_cast (sym o.2) (in_map f (removed_rest r o.1)))) (removed_distinct r (distinct_tail d))

  pub removed_gone : {a : A} {ys zs : List A} → Removed a ys zs → Distinct (map f ys) → In (f a) (map f zs) → ⊥
  removed_gone (first e) d m = distinct_head d (in_cast (ap f (sym e)) m)
  removed_gone {a} (later {y = y} {zs = zs} r) d m = go (λ n. removed_gone r (distinct_tail d) n) (in_cons m)
    where
      go : (In (f a) (map f zs) → ⊥) → (f a ≡ f y) ⊎ In (f a) (map f zs) → ⊥
      go rest (inl e) = distinct_head d (in_cast (sym e) (in_map f (removed_in r)))
      go rest (inr m) = rest m

module _ {A B : Type 0} (f : A → List B) where
  pub in_flat : {b : B} {a : A} {xs : List A} → In a xs → In b (f a) → In b (flat_map f xs)
  unfolding flat_map
  in_flat {b} (here {x = x} {xs = xs} e) m = in_left (flat_map f xs) (subst (λ (y : A). In b (f y)) e m)
  in_flat (there {x = x} l) m = in_right (f x) (in_flat l m)

  pub of_flat : {b : B} (xs : List A) → In b (flat_map f xs) → (a : A) × In a xs × In b (f a)
  unfolding flat_map
  of_flat [] m = absurd (in_nil m)
  of_flat {b} (x ∷ xs) m = go (λ n. of_flat xs n) (in_append (f x) m)
    where
      go : (In b (flat_map f xs) → (a : A) × In a xs × In b (f a)) → In b (f x) ⊎ In b (flat_map f xs) → (a : A) × In a (x ∷ xs) × In b (f a)
      go rest (inl m) = (x, here refl, m)
      go rest (inr m) = let o = rest m in (o.0, there o.1, o.2)
