-- What the test of the sizes and counts says: it is a conjunction, and each part of it is one bound.
use mathlib.Core.Path.{◌≡◌, refl, sym}
use mathlib.Core.Bool.{Bool, true, false, ◌&&◌, true≢false}
use Prim.Native.Nat.{ℕ, ◌≤◌}
use lib.Dec.{leb}
use borrow.Author.Tests.{leb-true, le-leb}
use Rattle.values.specs.declared.Window.{Window}
use Rattle.state.specs.declared.Hub.{Hub}
use Rattle.ready_sizes.specs.Sizes.{besides, window_fits, sizes_fit}

pub and_both : (a b : Bool) → a && b ≡ true → (a ≡ true) × (b ≡ true)
and_both true b e = (refl, e)
and_both false b e = absurd (true≢false (sym e))

-- a queue's window is in range, with at most so many ranges
pub record WindowIn (w : Window) (most : ℕ) : Type 0 where
  pub pools : w.pools ≤ w.queued
  pub queued : w.queued ≤ most
  pub first : w.first ≤ w.from
  pub from : w.from ≤ 2048

pub window_tell : (w : Window) (most : ℕ) → window_fits w most ≡ true → WindowIn w most
unfolding window_fits
window_tell w most e =
    let all = and_both (leb w.pools w.queued && leb w.queued most) (leb w.first w.from && leb w.from 2048) e in
    let counts = and_both (leb w.pools w.queued) (leb w.queued most) all.0 in
    let begins = and_both (leb w.first w.from) (leb w.from 2048) all.1 in
    record {
      pools = leb-true _ _ counts.0;
      queued = leb-true _ _ counts.1;
      first = leb-true _ _ begins.0;
      from = leb-true _ _ begins.1;
    }

pub window_yes : (w : Window) (most : ℕ) → WindowIn w most → window_fits w most ≡ true
unfolding window_fits
window_yes w most z =
    rw (
      le-leb w.pools w.queued z.pools,
      le-leb w.queued most z.queued,
      le-leb w.first w.from z.first,
      le-leb w.from 2048 z.from,
    )

-- the sizes and counts of a hub are in range, with a row of so many slots
pub record SizesIn (h : Hub) (long : ℕ) : Type 0 where
  pub p : (1 ≤ h.site.p) × (h.site.p ≤ 16)
  pub v : (1 ≤ h.site.v) × (h.site.v ≤ 256)
  pub n : (h.site.v ≤ h.site.n) × (h.site.n ≤ 2048) × (h.site.n ≤ long)
  pub free : h.free ≤ besides h
  pub window : WindowIn h.window (besides h)
  pub listed : h.site.listed ≤ 1024
  pub batch : (1 ≤ h.site.batch) × (h.site.batch ≤ 64)

pub sizes_tell : (h : Hub) (long : ℕ) → sizes_fit h long ≡ true → SizesIn h long
unfolding sizes_fit
sizes_tell h long e =
    let P = leb 1 h.site.p && leb h.site.p 16 in
    let V' = leb 1 h.site.v && leb h.site.v 256 in
    let N = leb h.site.v h.site.n && leb h.site.n 2048 in
    let W = window_fits h.window (besides h) in
    let B = leb 1 h.site.batch && leb h.site.batch 64 in
    let both = and_both (P && V' && (N && leb h.site.n long) && (leb h.free (besides h) && W)) (leb h.site.listed 1024 && B) e in
    let last = and_both (leb h.site.listed 1024) B both.1 in
    let b = and_both (leb 1 h.site.batch) (leb h.site.batch 64) last.1 in
    let all = and_both (P && V' && (N && leb h.site.n long)) (leb h.free (besides h) && W) both.0 in
    let sizes = and_both (P && V') (N && leb h.site.n long) all.0 in
    let counts = and_both (leb h.free (besides h)) W all.1 in
    let pv = and_both P V' sizes.0 in
    let p = and_both (leb 1 h.site.p) (leb h.site.p 16) pv.0 in
    let v = and_both (leb 1 h.site.v) (leb h.site.v 256) pv.1 in
    let n = and_both N (leb h.site.n long) sizes.1 in
    let vn = and_both (leb h.site.v h.site.n) (leb h.site.n 2048) n.0 in
    record {
      p = (leb-true _ _ p.0, leb-true _ _ p.1);
      v = (leb-true _ _ v.0, leb-true _ _ v.1);
      n = (leb-true _ _ vn.0, leb-true _ _ vn.1, leb-true _ _ n.1);
      free = leb-true _ _ counts.0;
      window = window_tell h.window (besides h) counts.1;
      listed = leb-true _ _ last.0;
      batch = (leb-true _ _ b.0, leb-true _ _ b.1);
    }

pub sizes_yes : (h : Hub) (long : ℕ) → SizesIn h long → sizes_fit h long ≡ true
unfolding sizes_fit
sizes_yes h long z =
    rw (
      le-leb 1 h.site.p z.p.0,
      le-leb h.site.p 16 z.p.1,
      le-leb 1 h.site.v z.v.0,
      le-leb h.site.v 256 z.v.1,
      le-leb h.site.v h.site.n z.n.0,
      le-leb h.site.n 2048 z.n.1,
      le-leb h.site.n long z.n.2,
      le-leb h.free (besides h) z.free,
      window_yes h.window (besides h) z.window,
      le-leb h.site.listed 1024 z.listed,
      le-leb 1 h.site.batch z.batch.0,
      le-leb h.site.batch 64 z.batch.1,
    )
