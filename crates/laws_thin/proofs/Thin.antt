-- Walks of functions that are lent a T, or lend one of their own: one walk for each shape, at any types. The types
-- are variables here, so what a walk costs does not grow with them. Nothing is said of contracts: a proof by hand of
-- a function of a shape shows that its MIR is the shape's, by conversion, and gives what the walk asks. Rattle writes
-- the proofs of `record_lent`'s three functions itself: these laws say that any function of their shapes is walked,
-- at any types.
--     in_place, walk_in_place   fn f(x: &mut T, s: &[u32], t: &mut [u32]) -> B { let r = g(*x, s, t); *x = r.1; r.0 }
--                               where g returns a struct of a B and a T: the borrow is opened, the T copied out, g
--                               called, its T stored back, and the borrow closed at it
--     keeping, walk_keeping     fn f(x: T, s: &[u32], t: &mut [u32]) -> struct of a B and a T
--                               { let mut w = x; let a = g(&mut w, s, t); { a, w } }:
--                               the local is lent for a lifetime that is made for the call, and is then what g left
--     looking, walk_looking     fn f(x: &T, s: &[u32]) -> B { g(*x, s) }: a share of the T is looked into, the T
--                               copied out, and g called
--     looked_whole              a T that is Copy may be looked into, where a `&T` holds one borrow of the whole T
-- Assumes `Logic`.
use mathlib.Core.Path.{◌≡◌, refl}
use Prim.Native.Nat.{ℕ, ◌<◌, ◌^◌}
use mathlib.Core.List.{[], ◌∷◌, List}
use lib.Dec.{T as Holds}
use seplogic.Ra.Ura.{Ura}
use base.Fraction.{full_share}
use mir.Syntax.{Ty, Written, Sym, Callee, Fn, named, erased, imm, mut, w32, ty_int, ty_ref, ty_struct, tcons, tnil, local, value_local, memory_slot, place, deref, field, copy, rv_opd, addr_of, aggregate, seq, assign, call, return}
use mir.Val.{Val, WT, has_ty, vptr, vstruct, vnil, vcons}
use base.Logic.{SProp, ent, id⊢}
use base.Stored.{Coded}
use base.Fml.{Lft, Share, GName, Fml, fsep, fat, flft, flent, fres, fobs, fbor}
use prog.Wp.{Calls, Loops, WpFn}
use types.Logic.{Logic, sem}
use types.Kit.{Item, Goal, Go, Seq, Soaks, mean, ‵, raw, some, later, ◌⊛◌, ⋆, ◌$◌, ◌∵◌, !, qed, by, move, drop, use1, use2, use3, split, pick, await, rewrite, fsplit, fjoin, fpick, fpack, done}
use types.Run.{look, look_raw, init, store_raw, forget, stop, hop, fld, from, load, addr, of_opd, and_then, no_more, assigns, land, returns, enter, alloc1, alloc0, params1, pass1, pass0, free1, free0}
use types.Part.{agg, whole, sub, look_in}
use types.SemTy.{Body}
use sound.WpLaws.{FmC}
use denote.RattleType.{RattleType}
use types.Tokens.{lft_new, lft_end}
use denote.Memory.{mem, cell_at, part_of, hidden_shr}
use denote.Opens.{Opens}
use denote.Copied.{whole-copied}
use denote.Shares.{Whole}
use denote.Lend.{lends_ref, ref_back}
use denote.Ref.{MutRef}
use denote.Laws.{Is, Tells, Makes, Copy, shows}
use denote.Slice.{slice_ty, slice_val}
use denote.Steps.{opens, closes, looks, shuts, owned, peeks}
use denote.Struct.Steps.{spelt}
use denote.Triple.Call.{calls_from}
use denote.Exit.{Kept, Exit}

-- a machine value has a MIR type
abbrev pub Typed : Ty → Val → Type 0
Typed τ v = Holds (has_ty τ v) × WT v

-- the struct of a B and a T: its MIR type and its machine values
abbrev pub pair_ty : Sym → Ty → Ty → Ty
pair_ty ν β τ = ty_struct ν (tcons β (tcons τ tnil))

abbrev pub pair_val : Val → Val → Val
pair_val u v = vstruct (vcons u (vcons v vnil))

-- the MIR of a shape, from the name ω that T is written by, T's and B's MIR types, the symbol of the struct of both,
-- and g's name
abbrev pub in_place : Ty → Ty → Ty → Sym → Callee → Fn
in_place ω τ β ν g = record {
  lifetimes = 3;
  outlives = [];
  ty_params = [];
  givens = 0;
  params = 3;
  locals = local β value_local
      ∷ local (ty_ref (named 0) mut ω) value_local
      ∷ local (slice_ty (ty_ref (named 1) imm (ty_int w32))) value_local
      ∷ local (slice_ty (ty_ref (named 2) mut (ty_int w32))) value_local
      ∷ local (pair_ty ν β τ) value_local
      ∷ local τ value_local
      ∷ local (ty_ref erased mut (ty_int w32)) value_local
      ∷ local (slice_ty (ty_ref erased mut (ty_int w32))) value_local
      ∷ local τ value_local
      ∷ [];
  body = seq (assign (place 5 []) (rv_opd (copy (place 1 (deref τ ∷ [])))))
      (seq (assign (place 6 []) (addr_of (place 3 (field 0 ∷ deref (ty_int w32) ∷ []))))
      (seq (assign (place 7 []) (aggregate (copy (place 6 []) ∷ copy (place 3 (field 1 ∷ [])) ∷ [])))
      (seq (call g (copy (place 5 []) ∷ copy (place 2 []) ∷ copy (place 7 []) ∷ []) (place 4 []))
      (seq (assign (place 8 []) (rv_opd (copy (place 4 (field 1 ∷ [])))))
      (seq (assign (place 1 (deref τ ∷ [])) (rv_opd (copy (place 8 []))))
      (seq (assign (place 0 []) (rv_opd (copy (place 4 (field 0 ∷ []))))) return))))));
}

abbrev pub keeping : Ty → Ty → Ty → Sym → Callee → Fn
keeping ω τ β ν g = record {
  lifetimes = 2;
  outlives = [];
  ty_params = [];
  givens = 0;
  params = 3;
  locals = local (pair_ty ν β τ) value_local
      ∷ local τ value_local
      ∷ local (slice_ty (ty_ref (named 0) imm (ty_int w32))) value_local
      ∷ local (slice_ty (ty_ref (named 1) mut (ty_int w32))) value_local
      ∷ local τ memory_slot
      ∷ local β value_local
      ∷ local (ty_ref erased mut ω) value_local
      ∷ local (ty_ref erased mut (ty_int w32)) value_local
      ∷ local (slice_ty (ty_ref erased mut (ty_int w32))) value_local
      ∷ local τ value_local
      ∷ [];
  body = seq (assign (place 4 []) (rv_opd (copy (place 1 []))))
      (seq (assign (place 6 []) (addr_of (place 4 [])))
      (seq (assign (place 7 []) (addr_of (place 3 (field 0 ∷ deref (ty_int w32) ∷ []))))
      (seq (assign (place 8 []) (aggregate (copy (place 7 []) ∷ copy (place 3 (field 1 ∷ [])) ∷ [])))
      (seq (call g (copy (place 6 []) ∷ copy (place 2 []) ∷ copy (place 8 []) ∷ []) (place 5 []))
      (seq (assign (place 9 []) (rv_opd (copy (place 4 []))))
      (seq (assign (place 0 []) (aggregate (copy (place 5 []) ∷ copy (place 9 []) ∷ []))) return))))));
}

abbrev pub looking : Ty → Ty → Ty → Callee → Fn
looking ω τ β g = record {
  lifetimes = 2;
  outlives = [];
  ty_params = [];
  givens = 0;
  params = 2;
  locals = local β value_local
      ∷ local (ty_ref (named 0) imm ω) value_local
      ∷ local (slice_ty (ty_ref (named 1) imm (ty_int w32))) value_local
      ∷ local τ value_local
      ∷ [];
  body = seq (assign (place 3 []) (rv_opd (copy (place 1 (deref τ ∷ [])))))
      (seq (call g (copy (place 3 []) ∷ copy (place 2 []) ∷ []) (place 0 [])) return);
}

-- T, from its parts
module _ (D : Type 0) (τ : Ty) (written : Written) (reaches : List (Written × List Ty)) (lives : Lft) (own : D → List Val → Fml) (exit : Kept → Exit D) (coded : Coded D) (shr_at : D → ℕ → ℕ → Lft → Fml) where
  abbrev pub row : RattleType
  row = record { Denot = D; mir = τ ∷ []; written = written; reaches = reaches; lives = lives; own_val = own; exit = exit; coded = coded; shr_at = shr_at }

  module _ {M : Type 1} {𝓤 : Ura M} (𝓛 : Logic 𝓤) (v : D → Val) (tells : Tells row (Is row) (λ d. v d ∷ [])) (typed : (d : D) (u : Val) → Is row d (u ∷ []) → Typed τ u) (makes : Makes 𝓛 row (Is row))
      (β : Ty) (ν : Sym) (g : Callee) (C : Calls 𝓤 𝓛.H) (Λ : Loops 𝓤 𝓛.H) (fm : FmC 𝓤 𝓛.H 𝓛.laws C)
      (κ : Lft) (q : Share) (b o : ℕ) (γ : GName) (h : D) (vs : Val) (p : ℕ × ℕ) (n : ℕ) (Rest Keeps : Item 𝓤) (Pre : SProp 𝓤) (Q : Val → SProp 𝓤) (Y : Type 0) (v_b v_t : Y → Val) (last : Y → D) (Has : Y → Item 𝓤) (Post : Val → SProp 𝓤) where
    open 𝓛 use {H}

    abbrev vt : Val
    vt = slice_val p n

    -- what is asked: the slices' machine values have their types; the callee's theorem; that what is owned gives what
    -- the callee asks, and Keeps; what the callee's end gives; and that what stands at the end is what the contract
    -- asks
    pub walk_in_place : Typed (slice_ty (ty_ref (named 1) imm (ty_int w32))) vs → n < 2 ^ 64
        → ent 𝓤 Pre (C g (v h ∷ vs ∷ vt ∷ []) Q)
        → ent 𝓤 (⋆ 𝓛 (‵ (own h (v h ∷ [])) ∷ Rest ∷ [])) (mean 𝓛 (raw Pre ⊛ Keeps))
        → ((w : Val) (Γ : List (Item 𝓤)) (G : Goal 𝓤 H) → Soaks G
        → ((y : Y) → w ≡ pair_val (v_b y) (v_t y) → Typed (pair_ty ν β τ) w → Seq (Go {0}) 𝓛 (Has y ∷ Γ) G)
        → Seq (Go {0}) 𝓛 (raw (Q w) ∷ Γ) G)
        → ((y : Y) → Typed β (v_b y)) → ((y : Y) → Is row (last y) (v_t y ∷ []))
        → ((y : Y)
        → ent 𝓤 (⋆ 𝓛 (‵ (fobs γ (coded.code (last y))) ∷ ‵ (fbor κ (Body (mem row) b o γ)) ∷ ‵ (flft κ q)
        ∷ Has y ∷ Keeps ∷ [])) (Post (v_b y)))
        → ent 𝓤 (⋆ 𝓛 (‵ (fobs γ (coded.code h)) ∷ ‵ (fbor κ (Body (mem row) b o γ)) ∷ ‵ (flft κ q) ∷ Rest ∷ []))
        (WpFn 𝓤 H C Λ (in_place written.ty τ β ν g) (vptr b o ∷ vs ∷ vt ∷ []) Post)
    walk_in_place typed-s fits known asks gives typed-b is exits =
        qed 𝓛 (‵ (fobs γ (coded.code h)) ∷ ‵ (fbor κ (Body (mem row) b o γ)) ∷ ‵ (flft κ q) ∷ Rest ∷ []) ∵ enter ! C Λ (in_place written.ty τ β ν g) (vptr b o ∷ vs ∷ vt ∷ []) _ $
        alloc1 ! (λ l₀. alloc1 ! (λ l₁. alloc1 ! (λ l₂. alloc1 ! (λ l₃. alloc1 ! (λ l₄. alloc1 ! (λ l₅. alloc1 ! (λ l₆. alloc1 ! (λ l₇. alloc1 ! (λ l₈. alloc0 ! $ params1 ! $
        pass1 ! (init ! 14 refl (tt, tt)) $ pass1 ! (init ! 12 refl typed-s) $ pass1 ! (init ! 10 refl (tt, (tt, (record { fits = fits }, tt)))) $ pass0 ! $
        -- the borrow is opened
        move ! (18 ∷ 19 ∷ 20 ∷ []) $ opens ! tt row {h = h} b o (λ us. spelt ! row (Is row) (shows 𝓛 row) (λ d. v d ∷ []) tells full_share h us b o $
        move ! (1 ∷ []) $ peeks ! row (Is row) (shows 𝓛 row) h (v h ∷ []) (λ is-h. move ! (1 ∷ 0 ∷ []) $
        -- [T's cell; what T owns; the open borrow; obs; auth; _8; …; _7; …; _6; …; _5; …; _4; …; _3; …; _2; …; _1; …;
        -- room for _0; …; Rest]
        assigns ! (of_opd ! (load ! (from ! (hop ! (look ! 19 refl) (stop !))) (look_raw ! 0 refl))) (from ! (stop !)) (init ! 11 refl (typed h (v h) is-h)) $
        assigns ! (addr ! (from ! (fld ! refl (hop ! (look_in ! 15 (sub ! 0 refl (whole !))) (stop !))))) (from ! (stop !)) (init ! 9 refl (tt, tt)) $
        assigns ! (agg ! (and_then ! (load ! (from ! (stop !)) (look ! 9 refl)) (and_then ! (load ! (from ! (fld ! refl (stop !))) (look_in ! 15 (sub ! 1 refl (whole !)))) (no_more !)))) (from ! (stop !)) (init ! 7 refl (tt, (tt, (record { fits = fits }, tt)))) $
        -- the call
        move ! (1 ∷ 23 ∷ []) $ use2 𝓛 (raw Pre ⊛ Keeps) asks $ split ! $
        -- [what is asked; Keeps; T's cell; the open borrow; obs; auth; _8; …; _7; …; _1; …; room for _0; …]
        calls_from ! fm (raw Pre) (v h ∷ vs ∷ vt ∷ []) Q known (and_then ! (load ! (from ! (stop !)) (look ! 12 refl)) (and_then ! (load ! (from ! (stop !)) (look ! 18 refl)) (and_then ! (load ! (from ! (stop !)) (look ! 8 refl)) (no_more !)))) (λ w.
        gives w _ _ tt (λ y e typed-w.
        land ! (from ! (stop !)) (init ! 14 refl typed-w) $ rewrite ! 14 (λ (u : Val). ‵ (fat full_share (pair_ty ν β τ) l₄ 0 u)) e refl $
        assigns ! (of_opd ! (load ! (from ! (fld ! refl (stop !))) (look_in ! 14 (sub ! 1 refl (whole !))))) (from ! (stop !)) (init ! 6 refl (typed (last y) (v_t y) (is y))) $
        assigns ! (of_opd ! (load ! (from ! (stop !)) (look ! 6 refl))) (from ! (hop ! (look ! 20 refl) (stop !))) (store_raw ! 2 refl (typed (last y) (v_t y) (is y))) $
        assigns ! (of_opd ! (load ! (from ! (fld ! refl (stop !))) (look_in ! 14 (sub ! 0 refl (whole !))))) (from ! (stop !)) (init ! 22 refl (typed-b y)) $
        -- the borrow is closed at the new T
        owned ! row (Is row) makes (last y) (v_t y ∷ []) (is y) $ move ! (3 ∷ 0 ∷ 4 ∷ 5 ∷ 6 ∷ []) $ closes ! tt row (last y) (v_t y ∷ []) b o $
        -- [obs; the borrow; its token; Has; Keeps; _8; …; room for _0; …]
        returns ! (look ! 21 refl) $ forget ! 5 refl $ forget ! 7 refl $ forget ! 9 refl $ forget ! 11 refl $ forget ! 13 refl $ forget ! 15 refl $ forget ! 17 refl $ forget ! 19 refl $ forget ! 21 refl $
        move ! (21 ∷ 22 ∷ []) $ free1 ! $ move ! (19 ∷ 20 ∷ []) $ free1 ! $ move ! (17 ∷ 18 ∷ []) $ free1 ! $ move ! (15 ∷ 16 ∷ []) $ free1 ! $ move ! (13 ∷ 14 ∷ []) $ free1 ! $ move ! (11 ∷ 12 ∷ []) $ free1 ! $ move ! (9 ∷ 10 ∷ []) $ free1 ! $ move ! (7 ∷ 8 ∷ []) $ free1 ! $ move ! (5 ∷ 6 ∷ []) $ free1 ! $ free0 ! $
        by ! (exits y))))))))))))))

  -- a T's cell, with what the T owns, is a T in memory, and back
  module _ {M : Type 1} {𝓤 : Ura M} (𝓛 : Logic 𝓤) (v : D → Val) (tells : Tells row (Is row) (λ d. v d ∷ [])) (b : ℕ) (d : D) where
    lies_in : ent 𝓤 (⋆ 𝓛 (‵ (fat full_share τ b 0 (v d)) ∷ ‵ (own d (v d ∷ [])) ∷ [])) (sem 𝓛 ((mem row).own_at d b 0))
    unfolding part_of
    lies_in =
        qed 𝓛 (‵ (fat full_share τ b 0 (v d)) ∷ ‵ (own d (v d ∷ [])) ∷ []) ∵
        use1 𝓛 (‵ (cell_at full_share (τ ∷ []) (v d ∷ []) b 0)) (𝓛.laws.at_raw full_share τ b 0 (v d)) $ fjoin ! $
        fpack ! (List Val) (λ us. fsep (cell_at full_share (τ ∷ []) us b 0) (own d us)) (v d ∷ []) $ done !

    lies_out : ent 𝓤 (sem 𝓛 ((mem row).own_at d b 0)) (⋆ 𝓛 (‵ (fat full_share τ b 0 (v d)) ∷ ‵ (own d (v d ∷ [])) ∷ []))
    unfolding part_of
    lies_out =
        qed 𝓛 (‵ ((mem row).own_at d b 0) ∷ []) ∵ fpick ! (λ us. fsplit ! $ spelt ! row (Is row) (shows 𝓛 row) (λ z. v z ∷ []) tells full_share d us b 0 $
        use1 𝓛 (‵ (fat full_share τ b 0 (v d))) (𝓛.laws.raw_at full_share τ b 0 (v d)) $ by ! (id⊢ 𝓤 _))

  module _ {M : Type 1} {𝓤 : Ura M} (𝓛 : Logic 𝓤) (v : D → Val) (tells : Tells row (Is row) (λ d. v d ∷ [])) (typed : (d : D) (u : Val) → Is row d (u ∷ []) → Typed τ u)
      (β : Ty) (ν : Sym) (g : Callee) (C : Calls 𝓤 𝓛.H) (Λ : Loops 𝓤 𝓛.H) (fm : FmC 𝓤 𝓛.H 𝓛.laws C)
      (h : D) (vs : Val) (p : ℕ × ℕ) (n : ℕ) (Rest Keeps : Item 𝓤) (Pre : ℕ → ℕ → GName → SProp 𝓤) (Q : ℕ → ℕ → GName → Val → SProp 𝓤) (Y : Type 0) (v_b : Y → Val) (last : Y → D) (Has : Y → Item 𝓤) (Post : Val → SProp 𝓤) where
    open 𝓛 use {H}

    abbrev vu : Val
    vu = slice_val p n

    -- the reference to the local at b, for the lifetime α, with the name γ
    abbrev pub Lends : ℕ → ℕ → GName → Item 𝓤
    Lends b α γ = ‵ ((MutRef (named 0) (α ∷ []) row).own_val (record { ref_ptr = (b, 0); ghost_name = γ; now = h }) (vptr b 0 ∷ []))

    -- what is asked: of T and the slices, that their machine values have their types; then as above, at every b, α
    -- and γ; and that what stands at the end is what the contract asks
    pub walk_keeping : Is row h (v h ∷ []) → Typed (slice_ty (ty_ref (named 0) imm (ty_int w32))) vs → n < 2 ^ 64
        → ((b α : ℕ) (γ : GName) → ent 𝓤 (Pre b α γ) (C g (vptr b 0 ∷ vs ∷ vu ∷ []) (Q b α γ)))
        → ((b α : ℕ) (γ : GName)
        → ent 𝓤 (⋆ 𝓛 (Lends b α γ ∷ ‵ (flft (α ∷ []) full_share) ∷ Rest ∷ [])) (mean 𝓛 (raw (Pre b α γ) ⊛ Keeps)))
        → ((b α : ℕ) (γ : GName) (w : Val) (Γ : List (Item 𝓤)) (G : Goal 𝓤 H) → Soaks G
        → ((y : Y) → w ≡ v_b y → Typed β w
        → Seq (Go {0}) 𝓛 (‵ (flft (α ∷ []) full_share) ∷ ‵ (fres γ (coded.code (last y))) ∷ Has y ∷ Γ) G)
        → Seq (Go {0}) 𝓛 (raw (Q b α γ w) ∷ Γ) G)
        → ((y : Y) → Is row (last y) (v (last y) ∷ []) → Typed (pair_ty ν β τ) (pair_val (v_b y) (v (last y))))
        → ((y : Y) → Is row (last y) (v (last y) ∷ [])
        → ent 𝓤 (⋆ 𝓛 (Has y ∷ Keeps ∷ [])) (Post (pair_val (v_b y) (v (last y)))))
        → ent 𝓤 (⋆ 𝓛 (‵ (own h (v h ∷ [])) ∷ Rest ∷ []))
        (WpFn 𝓤 H C Λ (keeping written.ty τ β ν g) (v h ∷ vs ∷ vu ∷ []) Post)
    walk_keeping is-h typed-s fits known asks gives typed-r exits =
        qed 𝓛 (‵ (own h (v h ∷ [])) ∷ Rest ∷ []) ∵ enter ! C Λ (keeping written.ty τ β ν g) (v h ∷ vs ∷ vu ∷ []) _ $
        alloc1 ! (λ l₀. alloc1 ! (λ l₁. alloc1 ! (λ l₂. alloc1 ! (λ l₃. alloc1 ! (λ l₄. alloc1 ! (λ l₅. alloc1 ! (λ l₆. alloc1 ! (λ l₇. alloc1 ! (λ l₈. alloc1 ! (λ l₉. alloc0 ! $ params1 ! $
        pass1 ! (init ! 16 refl (typed h (v h) is-h)) $ pass1 ! (init ! 14 refl typed-s) $ pass1 ! (init ! 12 refl (tt, (tt, (record { fits = fits }, tt)))) $ pass0 ! $
        -- [_9; …; _8; …; _7; …; _6; …; _5; …; _4; …; _3; …; _2; …; _1; …; room for _0; …; what T owns; Rest]
        assigns ! (of_opd ! (load ! (from ! (stop !)) (look ! 16 refl))) (from ! (stop !)) (init ! 10 refl (typed h (v h) is-h)) $
        assigns ! (addr ! (from ! (stop !))) (from ! (stop !)) (init ! 6 refl (tt, tt)) $
        assigns ! (addr ! (from ! (fld ! refl (hop ! (look_in ! 12 (sub ! 0 refl (whole !))) (stop !))))) (from ! (stop !)) (init ! 4 refl (tt, tt)) $
        assigns ! (agg ! (and_then ! (load ! (from ! (stop !)) (look ! 4 refl)) (and_then ! (load ! (from ! (fld ! refl (stop !))) (look_in ! 12 (sub ! 1 refl (whole !)))) (no_more !)))) (from ! (stop !)) (init ! 2 refl (tt, (tt, (record { fits = fits }, tt)))) $
        -- the local is lent for a lifetime α
        move ! (10 ∷ 20 ∷ []) $ use2 𝓛 (‵ ((mem row).own_at h l₄ 0)) (lies_in 𝓛 v tells l₄ h) $ lft_new ! tt (λ α. move ! (1 ∷ []) $
        use1 𝓛 (later (some (λ (γ : GName). Lends l₄ α γ ⊛ ‵ (flent (α ∷ []) (Body (mem row) l₄ 0 γ))))) (lends_ref 𝓛 row (named 0) (α ∷ []) h l₄ 0) $ await ! tt $ pick ! (λ γ. split ! $
        -- [the reference; the lender's part; the token; _9; …; _5; …; what frees _4; _3; …; room for _0; …; Rest]
        move ! (0 ∷ 2 ∷ 22 ∷ []) $ use3 𝓛 (raw (Pre l₄ α γ) ⊛ Keeps) (asks l₄ α γ) $ split ! $
        -- [what is asked; Keeps; the lender's part; _9; …; _8; …; _7; …; _6; …; _5; …; what frees _4; _3; …; _2; …;
        -- _1; …; room for _0; …]
        calls_from ! fm (raw (Pre l₄ α γ)) (vptr l₄ 0 ∷ vs ∷ vu ∷ []) (Q l₄ α γ) (known l₄ α γ) (and_then ! (load ! (from ! (stop !)) (look ! 9 refl)) (and_then ! (load ! (from ! (stop !)) (look ! 16 refl)) (and_then ! (load ! (from ! (stop !)) (look ! 5 refl)) (no_more !)))) (λ w.
        gives l₄ α γ w _ _ tt (λ y e typed-w.
        -- [the token; the last T; Has; Keeps; the lender's part; _9; …]
        lft_end ! tt $ move ! (0 ∷ 4 ∷ 1 ∷ []) $ use3 𝓛 (later (‵ ((mem row).own_at (last y) l₄ 0))) (ref_back 𝓛 row (α ∷ []) γ (last y) l₄ 0) $ await ! tt $
        use1 𝓛 (‵ (fat full_share τ l₄ 0 (v (last y))) ⊛ ‵ (own (last y) (v (last y) ∷ []))) (lies_out 𝓛 v tells l₄ (last y)) $ split ! $
        move ! (1 ∷ []) $ peeks ! row (Is row) (shows 𝓛 row) (last y) (v (last y) ∷ []) (λ is-d. drop ! $
        -- [_4; Has; Keeps; _9; …; _8; …; _7; …; _6; …; _5; …; what frees _4; _3; …; _2; …; _1; …; room for _0; …]
        land ! (from ! (stop !)) (init ! 11 refl typed-w) $ rewrite ! 11 (λ (u : Val). ‵ (fat full_share β l₅ 0 u)) e refl $
        assigns ! (of_opd ! (load ! (from ! (stop !)) (look ! 0 refl))) (from ! (stop !)) (init ! 3 refl (typed (last y) (v (last y)) is-d)) $
        assigns ! (agg ! (and_then ! (load ! (from ! (stop !)) (look ! 11 refl)) (and_then ! (load ! (from ! (stop !)) (look ! 3 refl)) (no_more !)))) (from ! (stop !)) (init ! 20 refl (typed-r y is-d)) $
        returns ! (look ! 20 refl) $ forget ! 0 refl $ forget ! 3 refl $ forget ! 5 refl $ forget ! 7 refl $ forget ! 9 refl $ forget ! 11 refl $ forget ! 14 refl $ forget ! 16 refl $ forget ! 18 refl $ forget ! 20 refl $
        move ! (20 ∷ 21 ∷ []) $ free1 ! $ move ! (18 ∷ 19 ∷ []) $ free1 ! $ move ! (16 ∷ 17 ∷ []) $ free1 ! $ move ! (14 ∷ 15 ∷ []) $ free1 ! $ move ! (0 ∷ 13 ∷ []) $ free1 ! $ move ! (10 ∷ 11 ∷ []) $ free1 ! $ move ! (8 ∷ 9 ∷ []) $ free1 ! $ move ! (6 ∷ 7 ∷ []) $ free1 ! $ move ! (4 ∷ 5 ∷ []) $ free1 ! $ move ! (2 ∷ 3 ∷ []) $ free1 ! $ free0 ! $
        by ! (exits y is-d))))))))))))))))

  -- a T that is Copy may be looked into, where a `&T` holds one borrow of the whole T
  module _ {M : Type 1} {𝓤 : Ura M} (𝓛 : Logic 𝓤) (v : D → Val) (tells : Tells row (Is row) (λ d. v d ∷ [])) where
    pub looked_whole : Whole row → Copy 𝓛 row → Opens 𝓛 row
    looked_whole one copies = (whole-copied 𝓛 row one v tells copies).opens

  module _ {M : Type 1} {𝓤 : Ura M} (𝓛 : Logic 𝓤) (v : D → Val) (tells : Tells row (Is row) (λ d. v d ∷ [])) (typed : (d : D) (u : Val) → Is row d (u ∷ []) → Typed τ u) (makes : Makes 𝓛 row (Is row)) (looked : Opens 𝓛 row)
      (β : Ty) (g : Callee) (C : Calls 𝓤 𝓛.H) (Λ : Loops 𝓤 𝓛.H) (fm : FmC 𝓤 𝓛.H 𝓛.laws C)
      (κ : Lft) (q : Share) (b o : ℕ) (h : D) (vs : Val) (Rest Keeps : Item 𝓤) (Pre : SProp 𝓤) (Q : Val → SProp 𝓤) (Y : Type 0) (v_b : Y → Val) (Has : Y → Item 𝓤) (Post : Val → SProp 𝓤) where
    -- what a `&T` owns beside its token
    open 𝓛 use {H}

    abbrev Shared : Item 𝓤
    Shared = ‵ (hidden_shr row κ h b o)

    -- what is asked: the words' machine value has its type; then as above
    pub walk_looking : Typed (slice_ty (ty_ref (named 1) imm (ty_int w32))) vs
        → ent 𝓤 Pre (C g (v h ∷ vs ∷ []) Q)
        → ent 𝓤 (⋆ 𝓛 (‵ (own h (v h ∷ [])) ∷ Rest ∷ [])) (mean 𝓛 (raw Pre ⊛ Keeps))
        → ((w : Val) (Γ : List (Item 𝓤)) (G : Goal 𝓤 H) → Soaks G
        → ((y : Y) → w ≡ v_b y → Typed β w → Seq (Go {0}) 𝓛 (Has y ∷ Γ) G) → Seq (Go {0}) 𝓛 (raw (Q w) ∷ Γ) G)
        → ((y : Y) → ent 𝓤 (⋆ 𝓛 (Has y ∷ Keeps ∷ ‵ (flft κ q) ∷ Shared ∷ [])) (Post (v_b y)))
        → ent 𝓤 (⋆ 𝓛 (Shared ∷ ‵ (flft κ q) ∷ Rest ∷ []))
        (WpFn 𝓤 H C Λ (looking written.ty τ β g) (vptr b o ∷ vs ∷ []) Post)
    walk_looking typed-s known asks gives exits =
        qed 𝓛 (Shared ∷ ‵ (flft κ q) ∷ Rest ∷ []) ∵ enter ! C Λ (looking written.ty τ β g) (vptr b o ∷ vs ∷ []) _ $
        alloc1 ! (λ l₀. alloc1 ! (λ l₁. alloc1 ! (λ l₂. alloc1 ! (λ l₃. alloc0 ! $ params1 ! $ pass1 ! (init ! 4 refl (tt, tt)) $ pass1 ! (init ! 2 refl typed-s) $ pass0 ! $
        -- the borrow is looked into
        move ! (8 ∷ 9 ∷ []) $ looks ! tt row looked h b o (λ q' us. spelt ! row (Is row) (shows 𝓛 row) (λ d. v d ∷ []) tells q' h us b o $
        move ! (1 ∷ []) $ peeks ! row (Is row) (shows 𝓛 row) h (v h ∷ []) (λ is-h. move ! (1 ∷ 0 ∷ []) $
        -- [a share of T's cell; what T owns; what shuts it; the shared borrow; _3; …; _2; …; _1; …; room for _0; …;
        -- Rest]
        assigns ! (of_opd ! (load ! (from ! (hop ! (look ! 8 refl) (stop !))) (look_raw ! 0 refl))) (from ! (stop !)) (init ! 4 refl (typed h (v h) is-h)) $ shuts ! tt row q' h (v h ∷ []) b o $
        -- [the token; the shared borrow; _3; …; room for _0; …; Rest]
        owned ! row (Is row) makes h (v h ∷ []) is-h $ move ! (0 ∷ 11 ∷ []) $ use2 𝓛 (raw Pre ⊛ Keeps) asks $ split ! $
        -- [what is asked; Keeps; the token; the shared borrow; _3; …; _2; …; _1; …; room for _0; …]
        calls_from ! fm (raw Pre) (v h ∷ vs ∷ []) Q known (and_then ! (load ! (from ! (stop !)) (look ! 4 refl)) (and_then ! (load ! (from ! (stop !)) (look ! 6 refl)) (no_more !))) (λ w.
        gives w _ _ tt (λ y e typed-w.
        land ! (from ! (stop !)) (init ! 10 refl typed-w) $ rewrite ! 10 (λ (u : Val). ‵ (fat full_share β l₀ 0 u)) e refl $
        returns ! (look ! 10 refl) $ forget ! 4 refl $ forget ! 6 refl $ forget ! 8 refl $ forget ! 10 refl $
        move ! (10 ∷ 11 ∷ []) $ free1 ! $ move ! (8 ∷ 9 ∷ []) $ free1 ! $ move ! (6 ∷ 7 ∷ []) $ free1 ! $ move ! (4 ∷ 5 ∷ []) $ free1 ! $ free0 ! $
        by ! (exits y)))))))))
