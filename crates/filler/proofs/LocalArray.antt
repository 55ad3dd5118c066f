-- A local array that is lent whole as a slice, for a lifetime of a call, and comes back: `Denote/Lend.antt`'s rules at
-- an array of n elements, which lies in a block of its own. It says nothing of the crate, and can be copied as it
-- stands.
--     Lies xs          the n elements xs lie in the block b.      made, gone      of the array's cell, and room again
--     lends, back      lent for κ as a `&mut [T]`, and back at the slice's last elements
--     lends_shared     lent as a `&[T]`, and back as it was (`Types/Tokens.antt`'s `lent_back`), where each element is
--                      lent so (`Denote/Lends.antt`), as any that can be copied (`Denote/Copied.antt`'s `lends`)
--     lends_shared_by  the same at any type that is shared out by its law (`Denote/Shares.antt`), with tokens, which
--                      come back
--     lends_bytes      `lends_shared` at bytes, which asks for nothing
--     fills, zeros     the statement `a = [0u8; n]`, and what then lies there
-- The count n is a variable in every proof here, so that none costs by n: at a written-out n, the type of the array's
-- machine value is computed element by element. Assumes `Logic`.
use mathlib.Core.Path.{◌≡◌, refl, sym, ap, subst}
use Prim.Native.Nat.{ℕ, zero, suc, ◌+◌}
use mathlib.Core.List.{List, [], ◌∷◌}
use lib.Dec.{T, lit<}
use lib.ListN.{length, replicate, length-replicate}
use seplogic.Ra.Ura.{Ura}
use base.Fraction.{full_share}
use mir.Syntax.{Lifetime, Place, Body, seq, assign, repeat, int, w8, ty_int, ty_array}
use mir.Val.{Val, vint, has_ty, WT}
use base.Logic.{SProp, ent, sep, ex, via}
use base.Fml.{Lft, GName, Fml, Incl, fat, feq, froom, fdead, flent}
use prog.Wp.{Env, Calls, Loops}
use ghost.Rules.{Toks, span}
use types.Logic.{Logic, sem, lfts}
use types.Kit.{Item, Post, Step, runs, nth, put, ‵, raw, some, later, ◌⊛◌, ◌$◌, ◌∵◌, !, qed, by, use0, use1, use3}
use types.Kit.{move, keep, split, pick, fsplit, fjoin, feq_i, feq_l, await, updating, now as at_once, done}
use types.Run.{Finds, lit, init, assigns}
use types.Part.{rep}
use types.SemTy.{cells, Arr}
use types.Share.{arr_parts}
use denote.RattleType.{RattleType}
use denote.Shadow.{shadow, pure_i}
use denote.Memory.{mem, lone, shares, part_at, shared_of}
use denote.Array.{Array, each, array_val, Array-repeat, Array-Lawful}
use denote.ArrayMemory.{Single, Array-apart, Array-whole}
use denote.Ref.{Bor, MutBor}
use denote.Lends.{Lent, Lent-nothing, Lent-both, lent_cut}
use denote.Shares.{Shares}
use denote.Copied.{uint_Copied}
use denote.Slice.{MutSlice, ShrSlice, Room, slice_val, shr_slice_at, elements_shared, finally}
use denote.Lend.{Held, lends_slice, lends_shr_slice, slice_back}
use denote.Index.{row, whole_in, whole_out}
use denote.Plain.{uint_copy, uint_Makes, uint_Lawful}
use denote.Builtin.{u8}
use borrow.Table.OneValue.{part_in, part_out}

module _ (R : RattleType) (n b : ℕ) where
  abbrev pub Lies : List R.Denot → Fml
  Lies xs = (arr_parts (shares R) n).part full_share xs b 0

module _ {M : Type 1} {𝓤 : Ura M} (𝓛 : Logic 𝓤) (R : RattleType) (n b : ℕ) where
  open 𝓛 use {H, A}

  abbrev ⟦◌⟧ : Fml → SProp 𝓤
  ⟦ P ⟧ = sem 𝓛 P

  pub made : Single R.mir → (xs : List R.Denot) (us : List Val)
      → ent 𝓤
      (sep 𝓤 (H.at full_share (ty_array (lone R.mir) n) b 0 (array_val us))
      ⟦ (Array R n).own_val xs (array_val us ∷ []) ⟧) ⟦ Lies R n b xs ⟧
  made one xs us = via 𝓤 ⟦ part_at (Array R n) full_share xs b 0 ⟧
      (part_in 𝓛 (Array R n) refl full_share xs b 0 (array_val us))
      (Array-apart 𝓛 R full_share one n xs b 0)

  pub gone : (xs : List R.Denot) → ent 𝓤 ⟦ Lies R n b xs ⟧ (H.room (ty_array (lone R.mir) n) b 0)
  gone xs =
      qed 𝓛 (‵ (Lies R n b xs) ∷ []) ∵
      use1 𝓛 (‵ (part_at (Array R n) full_share xs b 0)) (Array-whole 𝓛 R full_share n xs b 0) $
      use1 𝓛 (some (λ (v : Val).
      ‵ (fat full_share (ty_array (lone R.mir) n) b 0 v) ⊛ ‵ ((Array R n).own_val xs (v ∷ []))))
      (part_out 𝓛 (Array R n) refl full_share xs b 0) $ pick ! (λ v. split ! $
      use1 𝓛 (‵ (froom (ty_array (lone R.mir) n) b 0)) (𝓛.laws.at_room (ty_array (lone R.mir) n) b 0 v) $
      keep ! (0 ∷ []) $ done !)

  module _ (room : Room R n) (ℓ : Lifetime) (κ : Lft) where
    abbrev at_list : GName → List R.Denot → MutBor (List R.Denot)
    at_list γ xs = record { ref_ptr = (b, 0); ghost_name = γ; now = xs }

    abbrev Mut : List R.Denot → ℕ → GName → SProp 𝓤
    Mut xs m γ = sep 𝓤 ⟦ (MutSlice ℓ κ R).own_val (at_list γ xs) (slice_val (b, 0) m ∷ []) ⟧ (A.lent κ (Held R m b 0 γ))

    abbrev at_shared : List R.Denot → Bor (List R.Denot)
    at_shared xs = record { ref_ptr = (b, 0); now = xs }

    abbrev Shr : List R.Denot → ℕ → SProp 𝓤
    Shr xs m = sep 𝓤 ⟦ (ShrSlice ℓ κ R).own_val (at_shared xs) (slice_val (b, 0) m ∷ []) ⟧ (A.lent κ (Lies R m b xs))

    pub lends : (xs : List R.Denot) → ent 𝓤 ⟦ Lies R n b xs ⟧ (H.⇛ (ex 𝓤 (Mut xs n)))
    lends xs =
        qed 𝓛 (‵ (Lies R n b xs) ∷ []) ∵ fsplit ! $ feq_l ! (λ l.
        use1 𝓛 (‵ (cells (mem R) xs b 0)) (whole_in 𝓛 R xs b 0) $
        by ! (subst (λ (m : ℕ). ent 𝓤 ⟦ cells (mem R) xs b 0 ⟧ (H.⇛ (ex 𝓤 (Mut xs m)))) l
        (lends_slice 𝓛 R ℓ κ xs b 0 (subst (Room R) (sym l) room))))

    -- each element is lent as a `&`, with no token
    abbrev Lent_each : Type 1
    Lent_each = (x : R.Denot) (o : ℕ) → Lent 𝓛 (part_at R full_share x b o) (shared_of R x b o)

    row_lent : Lent_each → (xs : List R.Denot) (o : ℕ) → Lent 𝓛 (row R full_share xs b o) (elements_shared R xs b o)
    row_lent each [] o = Lent-nothing 𝓛
    row_lent each (x ∷ xs) o =
        Lent-both 𝓛 (part_at R full_share x b o) (row R full_share xs b (o + (mem R).size)) (shared_of R x b o)
        (elements_shared R xs b (o + (mem R).size)) (each x o) (row_lent each xs (o + (mem R).size))

    pub lends_shared : Lent_each → (xs : List R.Denot) → ent 𝓤 ⟦ Lies R n b xs ⟧ (H.⇛ (Shr xs n))
    lends_shared each xs =
        qed 𝓛 (‵ (Lies R n b xs) ∷ []) ∵ updating ! $
        use1 𝓛 (later (‵ (elements_shared R xs b 0 κ) ⊛ (‵ (feq ℕ (length xs) n) ⊛ ‵ (flent κ (Lies R n b xs)))))
        (lent_cut 𝓛 (Lies R n b xs) (row R full_share xs b 0) (feq ℕ (length xs) n) (elements_shared R xs b 0)
        (qed 𝓛 (‵ (Lies R n b xs) ∷ []) ∵ fsplit ! $ move ! (1 ∷ 0 ∷ []) $ done !)
        (qed 𝓛 (‵ (row R full_share xs b 0) ∷ ‵ (feq ℕ (length xs) n) ∷ []) ∵ move ! (1 ∷ 0 ∷ []) $ fjoin ! $ done !)
        (qed 𝓛 (‵ (feq ℕ (length xs) n) ∷ []) ∵ feq_l ! (λ l.
        feq_i ! ℕ (length xs) n l $ feq_i ! ℕ (length xs) n l $ done !))
        (row_lent each xs 0) κ) $
        await ! tt $ split ! $ move ! (1 ∷ []) $ split ! $ feq_l ! (λ l. at_once ! $
        pure_i ! (shr_slice_at R (at_shared xs) (slice_val (b, 0) n ∷ [])) (tt, (tt, tt))
        (ap (λ (m : ℕ). slice_val (b, 0) m ∷ []) (sym l), subst (Room R) (sym l) room) $
        move ! (0 ∷ 2 ∷ []) $ fjoin ! $ done !)

    pub lends_shared_by : (l : Lft) → Shares 𝓛 R l → (ts : Toks) → Incl (span ts) l → Incl (span ts) κ
        → (xs : List R.Denot) → ent 𝓤 (sep 𝓤 ⟦ Lies R n b xs ⟧ (lfts 𝓛 ts)) (H.⇛ (sep 𝓤 (Shr xs n) (lfts 𝓛 ts)))
    lends_shared_by l s ts inc sp xs =
        qed 𝓛 (‵ (Lies R n b xs) ∷ raw (lfts 𝓛 ts) ∷ []) ∵ fsplit ! $ feq_l ! (λ e.
        feq_i ! ℕ (length xs) n e $ fjoin ! $
        by ! (subst (λ (m : ℕ). ent 𝓤 (sep 𝓤 ⟦ Lies R m b xs ⟧ (lfts 𝓛 ts)) (H.⇛ (sep 𝓤 (Shr xs m) (lfts 𝓛 ts)))) e
        (lends_shr_slice 𝓛 R ℓ κ full_share xs b 0 (subst (Room R) (sym e) room) l s ts inc sp)))

  pub back : (κ : Lft) (γ : GName) (ys : List R.Denot)
      → ent 𝓤 (sep 𝓤 (A.dead κ) (sep 𝓤 (A.lent κ (Held R n b 0 γ)) ⟦ finally R γ ys ⟧)) (H.⇛ ⟦ Lies R n b ys ⟧)
  back κ γ ys =
      qed 𝓛 (‵ (fdead κ) ∷ ‵ (flent κ (Held R n b 0 γ)) ∷ ‵ (finally R γ ys) ∷ []) ∵ updating ! $
      use3 𝓛 (later (‵ ((Arr (mem R) n).own_at ys b 0))) (slice_back 𝓛 R κ γ ys n b 0) $ await ! tt $
      fsplit ! $ move ! (1 ∷ []) $
      use1 𝓛 (‵ (row R full_share ys b 0)) (whole_out 𝓛 R ys b 0) $
      move ! (1 ∷ 0 ∷ []) $ fjoin ! $ at_once ! $ done !

-- ---- bytes
module _ {M : Type 1} {𝓤 : Ura M} (𝓛 : Logic 𝓤) (n b : ℕ) (room : Room u8 n) (ℓ : Lifetime) (κ : Lft) where
  open 𝓛 use {H}

  pub lends_bytes : (xs : List ℕ) → ent 𝓤 (sem 𝓛 (Lies u8 n b xs)) (H.⇛ (Shr 𝓛 u8 n b room ℓ κ xs n))
  lends_bytes = lends_shared 𝓛 u8 n b room ℓ κ (λ x o. (uint_Copied 𝓛 w8).lends full_share x b o)

-- ---- n zero bytes
abbrev pub zero_bytes : ℕ → Val
zero_bytes n = array_val (replicate n (vint w8 0))

each_zero : (n : ℕ) → shadow (each ℕ u8.own_val (replicate n 0) (replicate n (vint w8 0)))
each_zero zero = tt
each_zero (suc n) = ((refl, lit< tt), each_zero n)

module _ {M : Type 1} {𝓤 : Ura M} (𝓛 : Logic 𝓤) (n b : ℕ) where
  open 𝓛 use {H}

  zeros_typed : T (has_ty (ty_array (ty_int w8) n) (zero_bytes n)) × WT (zero_bytes n)
  zeros_typed =
      ((Array-Lawful 𝓛 u8 (uint_Lawful 𝓛 w8) n).typed (replicate n 0) (zero_bytes n ∷ [])
      (replicate n (vint w8 0), ((refl, length-replicate n 0), each_zero n))).0

  pub zeros : ent 𝓤 (H.at full_share (ty_array (ty_int w8) n) b 0 (zero_bytes n))
      (sem 𝓛 (Lies u8 n b (replicate n 0)))
  zeros =
      qed 𝓛 (‵ (fat full_share (ty_array (ty_int w8) n) b 0 (zero_bytes n)) ∷ []) ∵
      use0 𝓛 (‵ (u8.own_val 0 (vint w8 0 ∷ []))) (uint_Makes 𝓛 w8 0 _ (refl, lit< tt)) $
      use1 𝓛 (‵ ((Array u8 n).own_val (replicate n 0) (zero_bytes n ∷ [])))
      (Array-repeat 𝓛 u8 (uint_copy 𝓛 w8) n 0 (vint w8 0)) $ move ! (1 ∷ 0 ∷ []) $
      by ! (made 𝓛 u8 n b tt (replicate n 0) (replicate n (vint w8 0)))

module _ {M : Type 1} {𝓤 : Ura M} {𝓛 : Logic 𝓤} {K : Type 0} {Γ : List (Item 𝓤)} where
  -- the statement that fills room for the array, entry k of the context
  open 𝓛 use {H}

  pub fills : K → (n k : ℕ) {b : ℕ} {E : Env 𝓤 H} {C : Calls 𝓤 H} {Λ : Loops 𝓤 H} {q : Post 𝓤 H}
      {p : Place} {rest : Body}
      → Finds K 𝓛 Γ E p (ty_array (ty_int w8) n, b, 0)
      → nth 𝓛 k Γ ≡ ‵ (froom (ty_array (ty_int w8) n) b 0)
      → Step K 𝓛 (put 𝓛 k (‵ (fat full_share (ty_array (ty_int w8) n) b 0 (zero_bytes n))) Γ) (runs C Λ E rest q) Γ
      (runs C Λ E (seq (assign p (repeat (int w8 0) n)) rest) q)
  fills t n k {b} at e = assigns t (rep t n (lit t tt)) at (init t k e (zeros_typed 𝓛 n b))
