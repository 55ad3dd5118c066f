-- The list of applications: children pushed in front of what is due, and one application more.
use mathlib.Core.Path.{◌≡◌, refl, sym, ap, ap₂, ◌∙◌}
use mathlib.Core.List.{List, [], ◌∷◌, ◌++◌, append_assoc, append-nil}
use Prim.Native.Nat.{ℕ, zero, suc, ◌+◌, ◌-◌, ◌≤◌, ◌<◌}
use native.Mathlib.Numerals.{add-one}
use native.Mathlib.Omega.{arith}
use lib.ListN.{length, get_or, set, take, drop, length-set, length-append, length-drop, drop_of_length-le}
use lib.Seq.{drop-cons, drop-length, drop-set-lt, take-suc-set, take-take}
use Rattle.hrg.specs.Grammars.{Kind, terminal, nonterminal, Edge, Grammar, no_edge, kind_of, right_of, edge_at}
use Rattle.questions.specs.Abstract.{grammar_of}
use Rattle.agenda.specs.declared.Record.{Record}
use Rattle.records.specs.Words.{record_at}
use Rattle.extraction.specs.Extraction.{rule_at, partners_at}
use Rattle.extraction.specs.Listing.{Listing, endless, listed, listed_with, cons_if, children_from, children_at, listing}
use Rattle.std.specs.Prelude.{Some, None}
use Rattle.extractor.specs.Lists.{Pushed, ListedIn}

-- ---- records pushed
pub pushed_none : (list : List ℕ) (top : ℕ) → Pushed [] list top list top
pushed_none list top = record { same = refl; place = omega arith; front = refl; back = refl }

-- more in front of them
pub pushed_more : (xs ys list mid now : List ℕ) (top t r : ℕ) → Pushed xs list top mid t → Pushed ys mid t now r → Pushed (ys ++ xs) list top now r
pushed_more xs ys list mid now top t r p q = record {
  same = q.same ∙ p.same;
  place = omega (arith, length-append ys xs, q.place, p.place);
  front = q.front ∙ sym (take-take r t mid (omega (arith, q.place))) ∙ ap (λ (l : List ℕ). take r l) p.front ∙ take-take r t list (omega (arith, q.place));
  back = q.back ∙ ap (λ (l : List ℕ). ys ++ l) p.back ∙ sym (append_assoc ys xs (drop top list));
}

-- ---- the children, from the last edge on
few_if : (x : Kind) (b : ℕ) → length (cons_if x b []) ≤ 1
few_if terminal b = omega arith
few_if nonterminal b = omega arith

cons_if_lem : (x : Kind) (b : ℕ) (bs : List ℕ) → cons_if x b bs ≡ cons_if x b [] ++ bs
cons_if_lem terminal b bs = refl
cons_if_lem nonterminal b bs = refl

module _ (G : Grammar) (bs : List ℕ) (es : List Edge) where
  children_next : (i : ℕ) → i < length es → children_from G bs (drop i es) i ≡ cons_if (kind_of G (edge_at es i).label) (get_or bs i 0) [] ++ children_from G bs (drop (i + 1) es) (i + 1)
  unfolding children_from
  children_next i h =
      ap (λ (l : List Edge). children_from G bs l i) (drop-cons es i no_edge h)
      ∙ cons_if_lem (kind_of G (edge_at es i).label) (get_or bs i 0) (children_from G bs (drop (suc i) es) (i + 1))
      ∙ ap (λ (k : ℕ). cons_if (kind_of G (edge_at es i).label) (get_or bs i 0) [] ++ children_from G bs (drop k es) (i + 1)) (sym (add-one i))

  pub record PushedFrom (list : List ℕ) (top i : ℕ) (now : List ℕ) (t : ℕ) : Type 0 where
    pub inside : i ≤ length es
    pub room : top + i ≤ t + 8
    pub low : t ≤ top
    pub pushed : Pushed (children_from G bs (drop i es) i) list top now t

  pub parts_none : (list : List ℕ) (top m : ℕ) → m ≡ length es → m ≤ 8 → PushedFrom list top m list top
  unfolding children_from
  parts_none list top m e few = record {
    inside = omega arith;
    room = omega arith;
    low = omega arith;
    pushed = rw (e, drop-length es) (pushed_none list top);
  }

  pub parts_next : (list mid now : List ℕ) (top i t r : ℕ) → 0 < i → PushedFrom list top i mid t
      → Pushed (cons_if (kind_of G (edge_at es (i - 1)).label) (get_or bs (i - 1) 0) []) mid t now r → PushedFrom list top (i - 1) now r
  parts_next list mid now top i t r some p q =
      let one : i - 1 + 1 ≡ i = omega arith in
      let few = few_if (kind_of G (edge_at es (i - 1)).label) (get_or bs (i - 1) 0) in
      record {
        inside = omega (arith, p.inside);
        room = omega (arith, p.room, q.place);
        low = omega (arith, p.low, q.place);
        pushed = rw (children_next (i - 1) (omega (arith, p.inside)), one) (pushed_more _ _ list mid now top t r p.pushed q);
      }

-- ---- the list
abbrev pub prefixed : List ℕ → Listing → Listing
prefixed xs endless = endless
prefixed xs (listed ys) = listed (xs ++ ys)

prefixed_more : (xs : List ℕ) (x : ℕ) (l : Listing) → prefixed xs (listed_with x l) ≡ prefixed (xs ++ (x ∷ [])) l
prefixed_more xs x endless = refl
prefixed_more xs x (listed ys) = ap listed (sym (append_assoc xs (x ∷ []) ys))

endless_not : (xs : List ℕ) → endless ≡ listed xs → ⊥
endless_not xs e = cc

module _ (w : List ℕ) where
  abbrev look : ℕ → Record
  look = λ k. record_at w k

  pub children_by : (g : List ℕ) (j r : ℕ) (bs list now : List ℕ) (top t : ℕ) → r ≡ rule_at look j → bs ≡ partners_at look (grammar_of g) j
      → Pushed (children_from (grammar_of g) bs (right_of (grammar_of g) r).edges 0) list top now t × (top ≤ t + 8)
      → Pushed (children_at look (grammar_of g) j) list top now t × (top ≤ t + 8)
  unfolding children_at
  children_by g j r bs list now top t a b (p, q) = (rw (a, b) at p, q)

  module _ (G : Grammar) where
    listing_end : (k : ℕ) → listing look G k [] ≡ listed []
    unfolding listing
    listing_end zero = refl
    listing_end (suc k) = refl

    -- more due than may be listed
    too_many : (k : ℕ) (js : List ℕ) → k < length js → listing look G k js ≡ endless
    unfolding listing
    too_many zero [] h = absurd (omega arith)
    too_many zero (j ∷ js) h = refl
    too_many (suc k) [] h = absurd (omega arith)
    too_many (suc k) (j ∷ js) h = ap (listed_with j) (too_many k (children_at look G j ++ js) (omega (arith, length-append (children_at look G j) js)))

    listing_next : (k m j : ℕ) (js : List ℕ) → k ≡ suc m → listing look G k (j ∷ js) ≡ listed_with j (listing look G m (children_at look G j ++ js))
    unfolding listing
    listing_next k m j js e = rw e

    -- what is listed within some number of records is so within a greater one
    more_listed : (k m : ℕ) (js xs : List ℕ) → k ≤ m → listing look G k js ≡ listed xs → listing look G m js ≡ listed xs
    unfolding listing
    more_listed zero m [] xs h e = listing_end m ∙ e
    more_listed zero m (j ∷ js) xs h e = absurd (endless_not xs e)
    more_listed (suc k) zero js xs h e = absurd (omega arith)
    more_listed (suc k) (suc m) [] xs h e = e
    more_listed (suc k) (suc m) (j ∷ js) xs h e = go (listing look G k (children_at look G j ++ js)) refl e (λ ys. more_listed k m (children_at look G j ++ js) ys (omega arith))
      where
        go : (l : Listing) → listing look G k (children_at look G j ++ js) ≡ l → listed_with j l ≡ listed xs
            → ((ys : List ℕ) → listing look G k (children_at look G j ++ js) ≡ listed ys → listing look G m (children_at look G j ++ js) ≡ listed ys)
            → listed_with j (listing look G m (children_at look G j ++ js)) ≡ listed xs
        go endless d q ih = absurd (endless_not xs q)
        go (listed ys) d q ih = ap (listed_with j) (ih ys d) ∙ q

    pub listed_more : (k m n : ℕ) (js list : List ℕ) → k ≤ m → ListedIn k (listing look G k js) list (Some n) → ListedIn m (listing look G m js) list (Some n)
    listed_more k m n js list h p = record {
      few = omega (arith, p.few);
      whole = more_listed k m js (take n list) h p.whole;
    }

    module _ (j limit : ℕ) where
      -- what is listed and what is due
      pub record Going (list : List ℕ) (count top : ℕ) : Type 0 where
        pub size : length list ≡ limit + 8
        pub free : count + 8 ≤ top
        pub low : top ≤ limit + 8
        pub whole : listing look G limit (j ∷ []) ≡ prefixed (take count list) (listing look G (limit - count) (drop top list))

      module _ (list now : List ℕ) (count top x t : ℕ) (before : Going list count top) (h : top < limit + 8) (e : x ≡ get_or list top 0)
          (pushed : Pushed (children_at look G x) (set list count x) (top + 1) now t) (near : top + 1 ≤ t + 8) where
        due_now : children_at look G x ++ drop (suc top) list ≡ drop t now
        due_now =
            ap (λ (l : List ℕ). children_at look G x ++ l) (sym (drop-set-lt (suc top) list count x (omega (arith, before.free))) ∙ ap (λ (k : ℕ). drop k (set list count x)) (sym (add-one top)))
            ∙ sym pushed.back

        listed_now : take count list ++ (x ∷ []) ≡ take (count + 1) now
        listed_now =
            sym (take-suc-set list count x (omega (arith, before.free, before.size)))
            ∙ ap (λ (k : ℕ). take k (set list count x)) (sym (add-one count))
            ∙ sym (take-take (count + 1) t (set list count x) (omega (arith, before.free)))
            ∙ ap (λ (l : List ℕ). take (count + 1) l) (sym pushed.front)
            ∙ take-take (count + 1) t now (omega (arith, before.free))

        turn : listing look G limit (j ∷ []) ≡ prefixed (take (count + 1) now) (listing look G (limit - (count + 1)) (drop t now))
        turn =
            before.whole
            ∙ ap (λ (js : List ℕ). prefixed (take count list) (listing look G (limit - count) js)) (drop-cons list top 0 (omega (arith, before.size)) ∙ ap (λ (y : ℕ). y ∷ drop (suc top) list) (sym e))
            ∙ ap (prefixed (take count list)) (listing_next (limit - count) (limit - (count + 1)) x (drop (suc top) list) (omega (arith, before.free)))
            ∙ prefixed_more (take count list) x (listing look G (limit - (count + 1)) (children_at look G x ++ drop (suc top) list))
            ∙ ap₂ (λ (xs js : List ℕ). prefixed xs (listing look G (limit - (count + 1)) js)) listed_now due_now

        sized : length now ≡ limit + 8
        sized = pushed.same ∙ length-set list count x ∙ before.size

        pub going_on : count + 1 + 8 ≤ t → Going now (count + 1) t
        going_on l = record { size = sized; free = l; low = omega (arith, pushed.place); whole = turn }

        pub going_over : t < count + 1 + 8 → ListedIn limit (listing look G limit (j ∷ [])) now None
        going_over l = record {
          few = tt;
          whole = turn ∙ ap (prefixed (take (count + 1) now)) (too_many (limit - (count + 1)) (drop t now) (omega (arith, length-drop t now, sized, before.free, before.low)));
        }

      pub going_done : (list : List ℕ) (count top : ℕ) → limit + 8 ≤ top → Going list count top → ListedIn limit (listing look G limit (j ∷ [])) list (Some count)
      going_done list count top h p = record {
        few = omega (arith, p.free, p.low);
        whole = p.whole
            ∙ ap (λ (js : List ℕ). prefixed (take count list) (listing look G (limit - count) js)) (drop_of_length-le list {i = top} (omega (arith, p.size)))
            ∙ ap (prefixed (take count list)) (listing_end (limit - count))
            ∙ ap listed (append-nil (take count list));
      }
