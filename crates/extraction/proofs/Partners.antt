-- What stands for the edges below a plan node: each of them takes the second partner of the record at the node that
-- introduces it.
use mathlib.Core.Path.{◌≡◌, refl, sym, ap, ◌∙◌}
use mathlib.Core.List.{List, [], ◌∷◌}
use Prim.Native.Nat.{ℕ, zero, suc, ◌<◌}
use native.Mathlib.Nat.{not-suc-le-zero}
use native.Mathlib.Omega.{arith}
use lib.ListN.{length, get_or, set, length-set}
use lib.Seq.{get_or-set_same, get_or-set_other}
use Rattle.hrg.specs.Counts.{hit, occurs}
use Rattle.hrg.specs.Grammars.{PlanNode, leaf, introduce, join, plan_node}
use Rattle.hrg.specs.Items.{below}
use Rattle.hrg.specs.WellFormed.{PlanOk}
use Rattle.hrg.proofs.Sums.{hit_self, occurs_append}
use Rattle.hrg.proofs.Plans.{introduce_lower, join_lower, inside_introduce, inside_join, below_introduce, below_join, below_once}
use Rattle.agenda.specs.declared.Record.{Record}
use Rattle.extraction.specs.Extraction.{partners_via, partners_within}

module _ (look : ℕ → Record) (pl : List PlanNode) where
  -- one level, where the plan node is known
  pub partners_step : (k p j : ℕ) (bs : List ℕ) (n : PlanNode) → plan_node pl p ≡ n
      → partners_within look pl (suc k) p j bs ≡ partners_via (λ c i cs. partners_within look pl k c i cs) (look j) bs n
  unfolding partners_within
  partners_step k p j bs n e = ap (λ (z : PlanNode). partners_via (λ c i cs. partners_within look pl k c i cs) (look j) bs z) e

  pub partners_length : (k p j : ℕ) (bs : List ℕ) → length (partners_within look pl k p j bs) ≡ length bs
  unfolding partners_within
  partners_length zero p j bs = refl
  partners_length (suc k) p j bs = go (λ c i cs. partners_length k c i cs) (plan_node pl p)
    where
      go : ((c i : ℕ) (cs : List ℕ) → length (partners_within look pl k c i cs) ≡ length cs) → (n : PlanNode)
          → length (partners_via (λ c i cs. partners_within look pl k c i cs) (look j) bs n) ≡ length bs
      go ih leaf = refl
      go ih (introduce c i) = ih c (look j).first _ ∙ length-set bs i _
      go ih (join a b) = ih b (look j).second _ ∙ ih a (look j).first bs

  -- Edge i has the partner b, from plan node p with the record at j on down, whatever stood there.
  abbrev pub Has : ℕ → ℕ → ℕ → ℕ → Type 0
  Has p j i b = (k : ℕ) (bs : List ℕ) → p < k → i < length bs → get_or (partners_within look pl k p j bs) i 0 ≡ b

  module _ (edges : ℕ) (ok : PlanOk edges pl) where
    -- other edges keep what they have
    pub partners_kept : (k p j : ℕ) (bs : List ℕ) (i : ℕ) → occurs i (below pl p) ≡ 0 → get_or (partners_within look pl k p j bs) i 0 ≡ get_or bs i 0
    unfolding partners_within occurs
    partners_kept zero p j bs i h = refl
    partners_kept (suc k) p j bs i h = go (λ c j cs o. partners_kept k c j cs i o) (plan_node pl p) refl
      where
        go : ((c j : ℕ) (cs : List ℕ) → occurs i (below pl c) ≡ 0 → get_or (partners_within look pl k c j cs) i 0 ≡ get_or cs i 0) → (n : PlanNode) → plan_node pl p ≡ n
            → get_or (partners_via (λ c i cs. partners_within look pl k c i cs) (look j) bs n) i 0 ≡ get_or bs i 0
        go ih leaf e = refl
        go ih (introduce c a) e =
            let s = ap (occurs i) (below_introduce edges pl ok p c a e) ∙ occurs_append i (below pl c) (a ∷ []) in
            ih c (look j).first _ (omega arith) ∙ get_or-set_other bs a i (look j).second 0 (λ q. omega (arith, ap (hit i) (sym q), hit_self i))
        go ih (join a b) e =
            let s = ap (occurs i) (below_join edges pl ok p a b e) ∙ occurs_append i (below pl a) (below pl b) in
            ih b (look j).second _ (omega arith) ∙ ih a (look j).first bs (omega arith)

    -- below a node that introduces an edge
    pub has_new : (p c i j : ℕ) → plan_node pl p ≡ introduce c i → Has p j i (look j).second
    unfolding occurs
    has_new p c i j e zero bs l h = absurd (not-suc-le-zero l)
    has_new p c i j e (suc k) bs l h =
        let s = ap (occurs i) (below_introduce edges pl ok p c i e) ∙ occurs_append i (below pl c) (i ∷ []) in
        ap (λ (cs : List ℕ). get_or cs i 0) (partners_step k p j bs (introduce c i) e)
        ∙ partners_kept k c (look j).first (set bs i (look j).second) i (omega (arith, below_once edges pl ok p i (inside_introduce edges pl ok p c i e), hit_self i))
        ∙ get_or-set_same bs i (look j).second 0 h

    pub has_child : (p c e j i b : ℕ) → plan_node pl p ≡ introduce c e → Has c (look j).first i b → Has p j i b
    has_child p c e j i b q w zero bs l h = absurd (not-suc-le-zero l)
    has_child p c e j i b q w (suc k) bs l h =
        ap (λ (cs : List ℕ). get_or cs i 0) (partners_step k p j bs (introduce c e) q)
        ∙ w k (set bs e (look j).second) (omega (arith, introduce_lower edges pl ok p c e q)) (omega (arith, length-set bs e (look j).second))

    -- below a join: no edge is below both children
    pub has_second : (p a c j i b : ℕ) → plan_node pl p ≡ join a c → Has c (look j).second i b → Has p j i b
    has_second p a c j i b q w zero bs l h = absurd (not-suc-le-zero l)
    has_second p a c j i b q w (suc k) bs l h =
        ap (λ (cs : List ℕ). get_or cs i 0) (partners_step k p j bs (join a c) q)
        ∙ w k (partners_within look pl k a (look j).first bs) (omega (arith, (join_lower edges pl ok p a c q).1)) (omega (arith, partners_length k a (look j).first bs))

    pub has_first : (p a c j i b : ℕ) → plan_node pl p ≡ join a c → 0 < occurs i (below pl a) → Has a (look j).first i b → Has p j i b
    has_first p a c j i b q o w zero bs l h = absurd (not-suc-le-zero l)
    has_first p a c j i b q o w (suc k) bs l h =
        let s = ap (occurs i) (below_join edges pl ok p a c q) ∙ occurs_append i (below pl a) (below pl c) in
        ap (λ (cs : List ℕ). get_or cs i 0) (partners_step k p j bs (join a c) q)
        ∙ partners_kept k c (look j).second (partners_within look pl k a (look j).first bs) i (omega (arith, below_once edges pl ok p i (inside_join edges pl ok p a c q)))
        ∙ w k bs (omega (arith, (join_lower edges pl ok p a c q).0)) h
