-- The loop over the partners on the list of one key: the cursors of ListedLaws, of which four are at the end. Quiet
-- records are passed by where they are met.
use Prim.Native.Nat.{ℕ, ◌+◌, ◌-◌, ◌/◌, ◌*◌, ◌≤◌, ◌<◌, max}
use mathlib.Core.Path.{◌≡◌, refl, sym, ap, ◌∙◌, subst}
use mathlib.Core.Logic.{◌≢◌}
use mathlib.Core.Bool.{Bool, true, false, not, ◌&&◌, false≢true}
use mathlib.Core.List.{List}
use native.Mathlib.Omega.{arith}
use lib.Dec.{eqb, leb}
use borrow.Author.Tests.{eq-eqb, ne_eqb, not-true, leb-true, leb-false}
use Rattle.hrg.proofs.Degrees.{and_true}
use lib.ListN.{length, get_or}
use Rattle.hrg.specs.Grammars.{Graph}
use Rattle.hrg.specs.ClosureRun.{guard}
use Rattle.agenda.specs.declared.Record.{Record}
use Rattle.agenda.specs.Consequences.{gather}
use Rattle.questions.specs.Abstract.{grammar_of, graph_of}
use Rattle.records.specs.Words.{item_count, record_at, grown_by}
use Rattle.lists.specs.Lists.{list_words}
use Rattle.lists.specs.Cursors.{alone, starts_of, least_of, after_of, passed_of, left_all}
use Rattle.lists.proofs.CursorLaws.{least_few, left_falls, ahead_skims, skims_none, alone_passed, alone_least, alone_past, alone_skims}
use Rattle.keys.specs.Keys.{query_of}
use Rattle.index.specs.Quiet.{quiet_in}
use Rattle.steps.specs.Partners.{with_record}
use Rattle.steps.specs.Ready.{Ready, Joining}
use Rattle.steps.proofs.ListedLaws.{query_within, Going, going_start, partners_each, partners_quiet, partners_few, partners_joining, partners_known, partners_end, turn_next, turn_less}

-- the test of the loop
test_yes : (c m : ℕ) → not (eqb c 0) && leb c m ≡ true → (c ≢ 0) × (c ≤ m)
test_yes c m t =
    let (a, b) = and_true (not (eqb c 0)) (leb c m) t in
    (λ e. false≢true (sym (not-true (eqb c 0) a) ∙ eq-eqb c 0 e), leb-true c m b)

test_no : (c m : ℕ) → not (eqb c 0) && leb c m ≡ false → c ≢ 0 → m < c
test_no c m t z = leb-false c m (ap (λ (b : Bool). not b && leb c m) (sym (ne_eqb c 0 z)) ∙ t)

start_alone : (ws : List ℕ) (b r : ℕ) → get_or ws 0 0 ≡ 0 → r ≡ get_or ws b 0 → alone r ≡ starts_of ws (alone b)
unfolding starts_of
start_alone ws b r z p = rw (p, z)

module _ (g h keys w : List ℕ) (j n : ℕ) where
  -- where the loop is: the first `past` partners are dealt with, and what is left and not quiet lies at the cursor c
  -- or behind it
  abbrev pub Along : List ℕ → List ℕ → List ℕ → ℕ → ℕ → Type 0
  Along v ix ls c past = Going g h keys (graph_of g h) w (record_at w j) j n v ix ls (alone c) (least_of (alone c)) past

  -- the record of the entry at c is quiet, or it is dealt with unless it was
  pub data Met (v ix ls : List ℕ) (c past : ℕ) (u jx ms : List ℕ) (later : ℕ) : Type 0 where
    quiet : quiet_in v (record_at w j).item.edges ((c - 1) / 5) ≡ true → u ≡ v → jx ≡ ix → ms ≡ ls → later ≡ past → Met v ix ls c past u jx ms later
    loud : (t kx ns : List ℕ) (m : ℕ) → u ≡ t → jx ≡ kx → ms ≡ ns → later ≡ m
        → t ≡ grown_by v (guard (leb past ((c - 1) / 5)) (with_record (grammar_of g) (graph_of g h) (record_at v j) j (record_at v ((c - 1) / 5)) ((c - 1) / 5))) → Ready g h keys t kx ns → m ≡ max past ((c - 1) / 5 + 1)
        → Met v ix ls c past u jx ms later

module _ {g h keys w ix₀ ls₀ : List ℕ} {lead : Bool} {j n key : ℕ} (P : Joining g h keys w ix₀ ls₀ lead j × (n ≤ item_count w) × (alone key ≡ query_of keys (record_at w j).item)) where
  abbrev H : Graph
  H = graph_of g h

  abbrev x : Record
  x = record_at w j

  pub single_key : key ≤ 2048
  single_key = query_within keys x.item (alone key) P.2 0 (omega arith)

  pub single_few : n ≤ 4096
  single_few = partners_few P.0 P.1

  pub single_start : (c : ℕ) → c ≡ get_or ls₀ key 0 → Along g h keys w j n w ix₀ ls₀ c 0
  single_start c e =
      going_start g h keys H w x j n P.0.ready.fits P.1 (partners_each P.0 P.1) ix₀ ls₀ (alone c) (alone c) (least_of (alone c)) P.0.ready
      (start_alone ls₀ key c P.0.ready.indexed.listed.none e ∙ ap (starts_of ls₀) P.2)
      (skims_none (quiet_in w x.item.edges) ls₀ n (alone c)) refl (least_few (alone c))

  module _ {v ix ls : List ℕ} {c past : ℕ} (S : Along g h keys w j n v ix ls c past) where
    pub single_joining : Joining g h keys v ix ls lead j
    single_joining = partners_joining P.0 P.1 S

    pub single_end : not (eqb c 0) && leb c (5 * n) ≡ false → v ≡ grown_by w (gather n (λ k. with_record (grammar_of g) H x j (record_at w k) k))
    single_end t = partners_end P.0 P.1 S (alone_past c n single_few (test_no c (5 * n) t))

    module _ (t : not (eqb c 0) && leb c (5 * n) ≡ true) where
      abbrev k : ℕ
      k = (c - 1) / 5

      z : c ≢ 0
      z = (test_yes c (5 * n) t).0

      pub single_low : c ≤ 5 * n
      single_low = (test_yes c (5 * n) t).1

      pub single_some : 1 ≤ c
      single_some = omega (arith, z)

      here : Going g h keys H w x j n v ix ls (alone c) k past
      here = subst (λ i. Going g h keys H w x j n v ix ls (alone c) i past) (sym (alone_least c z (omega (arith, single_low, single_few)))) S

      pub single_known : k < item_count v
      single_known = partners_known P.0 P.1 here (omega (arith, z, single_low))

      passed : (ws : List ℕ) (d : ℕ) → d ≡ after_of ws c → alone d ≡ passed_of ws (alone c) k
      passed ws d e = alone_passed ws c k d (omega (arith, z, single_low)) (omega (arith, z, single_low)) e

      -- past a quiet record
      module _ (s : quiet_in v x.item.edges k ≡ true) (d : ℕ) (e : d ≡ after_of ls c) where
        hushed : quiet_in w x.item.edges k ≡ true
        hushed = sym (partners_quiet P.0 P.1 S x.item.edges k (omega (arith, z, single_low, P.1))) ∙ s

        quiet_next : Along g h keys w j n v ix ls d past
        quiet_next = record {
          ready = S.ready;
          gathered = S.gathered;
          ahead = ahead_skims _ ls _ _ n past (alone c) (alone d) S.ready.indexed.listed S.ahead (alone_skims _ ls n c d z single_low hushed e);
          at = refl;
          few = least_few (alone d);
          low = S.low;
        }

        quiet_less : left_all (alone d) < left_all (alone c)
        quiet_less = left_falls _ ls _ _ n past k (alone c) (alone d) S.ready.indexed.listed S.ahead here.at (omega (arith, z, single_low)) (passed ls d e)

      -- past one that is dealt with
      module _ (u jx ms : List ℕ) (later : ℕ) (p : u ≡ grown_by v (guard (leb past k) (with_record (grammar_of g) H (record_at v j) j (record_at v k) k))) (R : Ready g h keys u jx ms) (q : later ≡ max past (k + 1)) (d : ℕ) (e : d ≡ after_of ms c) where
        loud_next : Along g h keys w j n u jx ms d later
        loud_next =
            turn_next P.0 P.1 here (omega (arith, z, single_low)) p R q (alone d) (alone d) (passed ms d e) (skims_none (quiet_in u x.item.edges) ms n (alone d)) (least_of (alone d)) refl
            (least_few (alone d))

        loud_less : left_all (alone d) < left_all (alone c)
        loud_less = turn_less P.0 P.1 here (omega (arith, z, single_low)) p R q (alone d) (alone d) (passed ms d e) (skims_none (quiet_in u x.item.edges) ms n (alone d))

      reading : (ms ns : List ℕ) (d : ℕ) → ms ≡ ns → d ≡ after_of ms c → d ≡ after_of ns c
      reading ms ns d b e = e ∙ ap (λ (t : List ℕ). after_of t c) b

      along : (u jx ms t kx ns : List ℕ) (d later m : ℕ) → u ≡ t → jx ≡ kx → ms ≡ ns → later ≡ m → Along g h keys w j n t kx ns d m → Along g h keys w j n u jx ms d later
      along u jx ms t kx ns d later m a b l o A =
          subst (λ (y : List ℕ). Along g h keys w j n y jx ms d later) (sym a)
          (subst (λ (y : List ℕ). Along g h keys w j n t y ms d later) (sym b)
          (subst (λ (y : List ℕ). Along g h keys w j n t kx y d later) (sym l) (subst (Along g h keys w j n t kx ns d) (sym o) A)))

      module _ {u jx ms : List ℕ} {later : ℕ} (d : ℕ) (e : d ≡ after_of ms c) where
        pub single_next : Met g h keys w j n v ix ls c past u jx ms later → Along g h keys w j n u jx ms d later
        single_next (quiet s a b l o) = along u jx ms v ix ls d later past a b l o (quiet_next s d (reading ms ls d l e))
        single_next (loud t kx ns m a b l o p R q) = along u jx ms t kx ns d later m a b l o (loud_next t kx ns m p R q d (reading ms ns d l e))

        pub single_less : Met g h keys w j n v ix ls c past u jx ms later → left_all (alone d) < left_all (alone c)
        single_less (quiet s a b l o) = quiet_less s d (reading ms ls d l e)
        single_less (loud t kx ns m a b l o p R q) = loud_less t kx ns m p R q d (reading ms ns d l e)
