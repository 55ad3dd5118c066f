-- One step on words: the loops over graph edges and partners, and the step as the model's.
use Prim.Native.Nat.{ℕ, zero, suc, ◌≤◌, ◌<◌}
use mathlib.Core.Path.{◌≡◌, refl, sym, ap, ap₂, ◌∙◌, subst}
use mathlib.Core.Bool.{Bool, true, false}
use mathlib.Core.List.Memᴰ.{append_left as in_left}
use mathlib.Core.List.Memᴰ.{append_right as in_right}
use mathlib.Core.List.{List, [], ◌++◌, Memᴰ as In}
use native.Mathlib.Omega.{arith}
use native.Mathlib.Decide.{dec_lt}
use lib.ListN.{length}
use Rattle.hrg.specs.Grammars.{Graph, Grammar}
use Rattle.hrg.specs.ClosureRun.{guard}
use Rattle.agenda.specs.declared.Record.{Record}
use Rattle.agenda.specs.Records.{item_of, is_handled}
use Rattle.agenda.specs.Consequences.{gather, record_in, at_root, with_terminal, pair, with_partner, consequences}
use Rattle.agenda.specs.Steps.{Chart, added_all, handled_at}
use Rattle.records.specs.Words.{Fits, capacity, item_count, record_at, records_at, chart_of, written, marked_at, grown_by}
use Rattle.records.proofs.WordLaws.{length_records, record_in_lem}
use Rattle.records.proofs.Written.{handle_written, chart_of_written, written_over}
use Rattle.records.proofs.Rewritten.{Grown, handled_in, grown_handled, capacity_on}
use Rattle.records.proofs.Grown.{Whole, whole_gather, holds_own, grown_all, grown_none, grown_fits, grown_more, grown_longer, grown_flag, grown_record}
use Rattle.steps.specs.Partners.{with_record}
use Rattle.steps.proofs.PartnerLaws.{append_nil}

-- ---- a loop from 0 on
-- the words v are w with what f gives for the numbers below i
pub record Gathered (w : List ℕ) (f : ℕ → List Record) (v : List ℕ) (i : ℕ) : Type 0 where
  pub is : v ≡ grown_by w (gather i f)

module _ (w : List ℕ) (o : Fits w) (f : ℕ → List Record) where
  pub gathered_none : Gathered w f w 0
  unfolding gather
  gathered_none = record { is = sym (grown_none w o) }

  gather_next : (i : ℕ) → gather (suc i) f ≡ gather i f ++ f i
  unfolding gather
  gather_next i = refl

  pub gathered_next : (v u : List ℕ) (i k : ℕ) → k ≡ suc i → ((n : ℕ) → n < k → Whole (f n)) → Gathered w f v i → u ≡ grown_by v (f i) → Gathered w f u k
  gathered_next v u i k q e g p = record {
    is =
        p ∙ ap (λ (t : List ℕ). grown_by t (f i)) g.is ∙ grown_more w o (gather i f) (whole_gather i f (λ n l. e n (omega arith))) (f i) (e i (omega arith)) ∙ ap (grown_by w) (sym (gather_next i))
        ∙ ap (λ n. grown_by w (gather n f)) (sym q);
  }

  pub gathered_all : (v : List ℕ) (i n : ℕ) → i ≡ n → Gathered w f v i → v ≡ grown_by w (gather n f)
  gathered_all v i n q g = g.is ∙ ap (λ k. grown_by w (gather k f)) q

  -- numbers for which f gives nothing
  skip_by : (i n : ℕ) → f n ≡ [] → gather n f ≡ gather i f → gather n f ++ f n ≡ gather i f
  skip_by i n e q = ap (λ (a : List Record). gather n f ++ a) e ∙ append_nil (gather n f) ∙ q

  gather_skip : (i n : ℕ) → ((k : ℕ) → i ≤ k → k < n → f k ≡ []) → i ≤ n → gather n f ≡ gather i f
  unfolding gather
  gather_skip i zero none l = ap (λ k. gather k f) (let e : 0 ≡ i = omega arith in e)
  gather_skip i (suc n) none l = go (λ d. gather_skip i n (λ k a b. none k a (omega arith)) d) (dec_lt i (suc n))
    where
      go : (i ≤ n → gather n f ≡ gather i f) → Dec (i < suc n) → gather n f ++ f n ≡ gather i f
      go q (yes d) = skip_by i n (none n (omega arith) (omega arith)) (q (omega arith))
      go q (no d) = ap (λ k. gather k f) (let e : suc n ≡ i = omega arith in e)

  pub gathered_skip : (v : List ℕ) (i n : ℕ) → ((k : ℕ) → i ≤ k → k < n → f k ≡ []) → i ≤ n → Gathered w f v i → Gathered w f v n
  gathered_skip v i n none l g = record { is = g.is ∙ ap (grown_by w) (sym (gather_skip i n none l)) }

-- nothing to add
pub nothing_added : (w : List ℕ) (xs : List Record) → Fits w → xs ≡ [] → w ≡ grown_by w xs
nothing_added w xs o q = sym (grown_none w o) ∙ ap (grown_by w) (sym q)

pub added_fits : (w v : List ℕ) (xs : List Record) → Fits w → Whole xs → v ≡ grown_by w xs → Fits v
added_fits w v xs o e p = subst Fits (sym p) (grown_fits w o xs e)

pub added_longer : (w v : List ℕ) (xs : List Record) → Fits w → Whole xs → v ≡ grown_by w xs → item_count w ≤ item_count v
added_longer w v xs o e p = subst (λ (u : List ℕ). item_count w ≤ item_count u) (sym p) (grown_longer w o xs e)

-- first these, then those
pub added_then : (w v u : List ℕ) (xs ys : List Record) → Fits w → Whole xs → Whole ys → v ≡ grown_by w xs → u ≡ grown_by v ys → u ≡ grown_by w (xs ++ ys)
added_then w v u xs ys o e e' p q = q ∙ ap (λ (t : List ℕ). grown_by t ys) p ∙ grown_more w o xs e ys e'

gather_empty : (f : ℕ → List Record) → ((k : ℕ) → f k ≡ []) → (n : ℕ) → gather n f ≡ []
unfolding gather
gather_empty f none zero = refl
gather_empty f none (suc n) = ap₂ (λ (a b : List Record). a ++ b) (gather_empty f none n) (none n)

in_gather : {z : Record} (n : ℕ) (f : ℕ → List Record) (k : ℕ) → k < n → In z (f k) → In z (gather n f)
unfolding gather
in_gather zero f k l m = absurd (omega arith)
in_gather {z} (suc n) f k l m = go (dec_lt k n) (λ h. in_gather n f k h m)
  where
    go : Dec (k < n) → (k < n → In z (gather n f)) → In z (gather n f ++ f n)
    go (yes h) below = in_left (f n) (below h)
    go (no h) below = in_right (gather n f) (subst (λ i. In z (f i)) (let e : k ≡ n = omega arith in e) m)

module _ (G : Grammar) (H : Graph) where
  -- ---- a partner that is read again: handled records stay, and others make nothing
  record_same : (x : Record) (j : ℕ) (y z : Record) (k : ℕ) → is_handled y ≡ is_handled z → (is_handled z ≡ true → y ≡ z) → with_record G H x j y k ≡ with_record G H x j z k
  unfolding with_record
  record_same x j y z k q s = go (is_handled z) refl
    where
      go : (b : Bool) → is_handled z ≡ b → guard (is_handled y) (pair G H x j y k ++ pair G H y k x j) ≡ guard (is_handled z) (pair G H x j z k ++ pair G H z k x j)
      go true e = ap (λ (u : Record). guard (is_handled u) (pair G H x j u k ++ pair G H u k x j)) (s e)
      go false e = rw (q ∙ e, e) refl

  pub partner_same : (w : List ℕ) (xs : List Record) (v : List ℕ) (x : Record) (j k : ℕ) → Fits w → Whole xs → v ≡ grown_by w xs → k < item_count w
      → with_record G H x j (record_at v k) k ≡ with_record G H x j (record_at w k) k
  partner_same w xs v x j k o e p l =
      ap (λ (u : List ℕ). with_record G H x j (record_at u k) k) p
      ∙ record_same x j (record_at (grown_by w xs) k) (record_at w k) k (grown_flag w o xs e k l) (grown_record w o xs e k l)

  -- no partner makes anything
  pub no_partners : (w : List ℕ) (f : ℕ → List Record) (n : ℕ) → Fits w → ((k : ℕ) → f k ≡ []) → w ≡ grown_by w (gather n f)
  no_partners w f n o none = nothing_added w (gather n f) o (gather_empty f none n)

  -- the loop over partners
  module _ (w : List ℕ) (o : Fits w) (x : Record) (j : ℕ) (e : (i : ℕ) → i < item_count w → Whole (with_record G H x j (record_at w i) i)) where
    abbrev pub partners : ℕ → List Record
    partners k = with_record G H x j (record_at w k) k

    pub partners_whole : (n : ℕ) → n ≤ item_count w → Whole (gather n partners)
    partners_whole n l = whole_gather n partners (λ i h. e i (omega arith))

    -- a partner that is read again, after some were dealt with
    pub again_whole : (v : List ℕ) (n k : ℕ) → n ≤ item_count w → k < item_count w → Gathered w partners v n → Whole (with_record G H x j (record_at v k) k)
    again_whole v n k few l g = subst Whole (sym (partner_same w (gather n partners) v x j k o (partners_whole n few) g.is l)) (e k l)

    pub partners_next : (v u : List ℕ) (k m : ℕ) → m ≡ suc k → k < item_count w → Gathered w partners v k → u ≡ grown_by v (with_record G H x j (record_at v k) k) → Gathered w partners u m
    partners_next v u k m q l g p =
        gathered_next w o partners v u k m q (λ i h. e i (omega arith)) g (p ∙ ap (grown_by v) (partner_same w (gather k partners) v x j k o (partners_whole k (omega arith)) g.is l))

  -- ---- all that a record makes
  gather_same : (n : ℕ) (f g : ℕ → List Record) → ((k : ℕ) → k < n → f k ≡ g k) → gather n f ≡ gather n g
  unfolding gather
  gather_same zero f g e = refl
  gather_same (suc n) f g e = ap₂ (λ (a b : List Record). a ++ b) (gather_same n f g (λ k l. e k (omega arith))) (e n (omega arith))

  -- by the root rule and with graph edges
  abbrev pub by_root : Record → ℕ → List Record
  by_root x j = at_root G (item_of G x.item) x.item.count j

  abbrev pub with_edges : Record → ℕ → List Record
  with_edges x j = gather (length H.edges) (λ e. with_terminal G H (item_of G x.item) x.item.count j e)

  pub alone_added : (w v u : List ℕ) (x : Record) (j : ℕ) → Fits w → Whole (by_root x j) → Whole (with_edges x j) → v ≡ grown_by w (by_root x j) → u ≡ grown_by v (with_edges x j)
      → u ≡ grown_by w (by_root x j ++ with_edges x j)
  alone_added w v u x j o a b = added_then w v u (by_root x j) (with_edges x j) o a b

  -- .. and then with records, in words that have those
  module _ (w : List ℕ) (j : ℕ) (l : j < item_count w) where
    abbrev x : Record
    x = record_at w j

    read_consequences : (by_root x j ++ with_edges x j) ++ gather (item_count w) (λ k. with_record G H x j (record_at w k) k) ≡ consequences G H (chart_of w).records j
    unfolding consequences with_partner with_record chart_of
    read_consequences =
        let rs = records_at w (item_count w) in
        let size = length_records w (item_count w) in
        let y = record_in rs j in
        ap (λ (n : ℕ). (by_root x j ++ with_edges x j) ++ gather n (λ k. with_record G H x j (record_at w k) k)) (sym size)
        ∙ ap (λ (z : Record). (by_root z j ++ with_edges z j) ++ gather (length rs) (λ k. with_record G H z j (record_at w k) k)) (sym (record_in_lem w (item_count w) j l))
        ∙ ap (λ (a : List Record). (by_root y j ++ with_edges y j) ++ a)
        (gather_same (length rs) (λ k. with_record G H y j (record_at w k) k) (λ k. with_partner G H rs j k)
        (λ k h. ap (λ (z : Record). with_record G H y j z k) (sym (record_in_lem w (item_count w) k (omega arith)))))

    -- a record that it makes by one rule is among them
    abbrev Among : Record → Type 0
    Among z = In z (consequences G H (chart_of w).records j)

    pub among_root : (z : Record) → In z (by_root x j) → Among z
    among_root z m = subst (In z) read_consequences (in_left _ (in_left _ m))

    pub among_edges : (e : ℕ) → e < length H.edges → (z : Record) → In z (with_terminal G H (item_of G x.item) x.item.count j e) → Among z
    among_edges e h z m = subst (In z) read_consequences (in_left _ (in_right (by_root x j) (in_gather (length H.edges) _ e h m)))

    pub among_records : (k : ℕ) → k < item_count w → is_handled (record_at w k) ≡ true → (z : Record) → In z (pair G H x j (record_at w k) k) → Among z
    unfolding with_record
    among_records k h t z m =
        subst (In z) read_consequences (in_right (by_root x j ++ with_edges x j) (in_gather (item_count w) (λ i. with_record G H x j (record_at w i) i) k h (rw t (in_left _ m))))

    pub all_added : (v u : List ℕ) → Fits w → Whole (by_root x j ++ with_edges x j) → ((k : ℕ) → k < item_count w → Whole (with_record G H x j (record_at w k) k)) → v ≡ grown_by w (by_root x j ++ with_edges x j) → (n : ℕ) → n ≡ item_count w → u ≡ grown_by v (gather n (λ k. with_record G H x j (record_at v k) k))
        → u ≡ grown_by w (consequences G H (chart_of w).records j)
    all_added v u o a e p n q r =
        let xs = by_root x j ++ with_edges x j in
        let ys = gather n (λ k. with_record G H x j (record_at w k) k) in
        let same : gather n (λ k. with_record G H x j (record_at v k) k) ≡ ys =
        gather_same n (λ k. with_record G H x j (record_at v k) k) (λ k. with_record G H x j (record_at w k) k)
        (λ k h. partner_same w xs v x j k o a p (omega arith)) in
        added_then w v u xs ys o a (whole_gather n (λ k. with_record G H x j (record_at w k) k) (λ k h. e k (omega arith))) p (r ∙ ap (grown_by v) same)
        ∙ ap (λ m. grown_by w (xs ++ gather m (λ k. with_record G H x j (record_at w k) k))) q
        ∙ ap (grown_by w) read_consequences

  -- ---- the step: all that a record makes, added where it is handled
  module _ (w : List ℕ) (o : Fits w) (j : ℕ) (l : j < item_count w) where
    abbrev c : Chart
    c = handled_in j (chart_of w)

    held : Grown w (chart_of w) c
    held = grown_handled w (chart_of w) (holds_own w o) j

    pub step_by : Whole (consequences G H (handled_in j (chart_of w)).records j) → (v u : List ℕ) → v ≡ marked_at w j → u ≡ grown_by v (consequences G H (chart_of v).records j) → u ≡ written w (handled_at G H (capacity w) j (chart_of w))
    unfolding grown_by handled_at
    step_by whole v u is p =
        let cs = consequences G H c.records j in
        let v_is : v ≡ written w c = is ∙ handle_written w j o l in
        p
        ∙ ap (λ (n : ℕ). written v (added_all n (consequences G H (chart_of v).records j) (chart_of v))) (capacity_on w c held.holds v v_is)
        ∙ ap (λ (d : Chart). written v (added_all (capacity w) (consequences G H d.records j) d)) (ap chart_of v_is ∙ chart_of_written w c held.holds)
        ∙ ap (λ (t : List ℕ). written t (added_all (capacity w) cs c)) v_is
        ∙ written_over w c held.holds (added_all (capacity w) cs c) (grown_all w cs c held.holds whole).longer
