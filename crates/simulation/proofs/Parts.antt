-- A file that is handed in part by part, each part but the last whole records: the calls apply the records of the file.
use mathlib.Core.Path.{◌≡◌, refl, sym, ap, ◌∙◌}
use mathlib.Core.Logic.{◌⊎◌, inl, inr}
use mathlib.Core.List.{List, [], ◌∷◌, ◌++◌, map, map-append, append-nil}
use Prim.Native.Nat.{ℕ, zero, suc, ◌+◌, ◌*◌, ◌/◌, ◌%◌, ◌≤◌}
use native.Mathlib.Omega.{arith}
use lib.ListN.{length, take, drop, length-append, length-drop, drop_of_length-le}
use lib.Seq.{drop-drop, take_all, take-append-le, drop-append-le}
use Rattle.model.specs.Store.{up_from}
use Rattle.model.specs.Rules.{Given, in_force, under, all_under}
use Rattle.model.specs.Record.{cut, records_of}
use Rattle.model.specs.Demand.{Exchange}
use Rattle.simulation.specs.Holds.{sent}
use Rattle.simulation.specs.Records.{record_at, records_in}
use Rattle.simulation.specs.Buffer.{exchange_at}
use Rattle.simulation.specs.Demands.{CallIn, ForRecord, ForRecords, ForTable, exchanged, exchanges, given_in, bytes_in, AppliedAll, InParts}
use Rattle.simulation.proofs.Below.{map-map}

-- k records are taken, and the bytes l are left
cut-records : (n : ℕ) (bytes l : List ℕ) (k : ℕ) → drop (16 * k) bytes ≡ l → length l ≤ n → map (record_at bytes) (up_from k (records_in l)) ≡ cut n l
unfolding up_from cut
cut-records zero bytes [] k e h = refl
cut-records (suc n) bytes [] k e h = refl
cut-records zero bytes (x ∷ l) k e h = absurd (omega (arith, h))
cut-records (suc n) bytes (x ∷ l) k e h =
    let r : List ℕ = drop 16 (x ∷ l) in
    let one : records_in (x ∷ l) ≡ suc (records_in r) = omega (arith, length-drop 16 (x ∷ l)) in
    let further : 16 * (k + 1) ≡ 16 * k + 16 = omega arith in
    let on : drop (16 * (k + 1)) bytes ≡ r = ap (λ (j : ℕ). drop j bytes) further ∙ sym (drop-drop 16 (16 * k) bytes) ∙ ap (drop 16) e in
    let rest : map (record_at bytes) (up_from (k + 1) (records_in r)) ≡ cut n r =
    cut-records n bytes r (k + 1) on (omega (arith, h, length-drop 16 (x ∷ l))) in
    ap (λ (j : ℕ). map (record_at bytes) (up_from k j)) one ∙ (λ i. take 16 (e i) ∷ rest i)

-- the records of a buffer are the model's records of its bytes
pub whole : (bytes : List ℕ) → map (record_at bytes) (up_from 0 (records_in bytes)) ≡ records_of bytes
unfolding records_of
whole bytes = cut-records (length bytes) bytes bytes 0 refl (omega arith)

-- how many records may be taken makes no difference where there are not so many
cut-enough : (n p : ℕ) (l : List ℕ) → length l ≤ n → length l ≤ p → cut n l ≡ cut p l
unfolding cut
cut-enough zero zero l h k = refl
cut-enough zero (suc p) [] h k = refl
cut-enough (suc n) zero [] h k = refl
cut-enough (suc n) (suc p) [] h k = refl
cut-enough zero (suc p) (x ∷ l) h k = absurd (omega (arith, h))
cut-enough (suc n) zero (x ∷ l) h k = absurd (omega (arith, k))
cut-enough (suc n) (suc p) (x ∷ l) h k =
    ap (λ (q : List (List ℕ)). take 16 (x ∷ l) ∷ q)
    (cut-enough n p (drop 16 (x ∷ l)) (omega (arith, h, length-drop 16 (x ∷ l))) (omega (arith, k, length-drop 16 (x ∷ l))))

cut_parts : (n p : ℕ) (l r : List ℕ) (k : ℕ) → length l ≡ 16 * k → length (l ++ r) ≤ n → length l ≤ p → cut n (l ++ r) ≡ cut p l ++ records_of r
unfolding cut records_of
cut_parts n zero [] r k e h g = cut-enough n (length r) r h (omega arith)
cut_parts n (suc p) [] r k e h g = cut-enough n (length r) r h (omega arith)
cut_parts n zero (x ∷ l) r k e h g = absurd (omega (arith, g))
cut_parts zero (suc p) (x ∷ l) r k e h g = absurd (omega (arith, h))
cut_parts (suc n) (suc p) (x ∷ l) r zero e h g = absurd (omega (arith, e))
cut_parts (suc n) (suc p) (x ∷ l) r (suc k) e h g =
    let s : List ℕ = x ∷ l in
    let long : 16 ≤ length s = omega (arith, e) in
    let rest : cut n (drop 16 s ++ r) ≡ cut p (drop 16 s) ++ records_of r =
    cut_parts n p (drop 16 s) r k (omega (arith, e, length-drop 16 s))
    (omega (arith, h, length-append (drop 16 s) r, length-append s r, length-drop 16 s)) (omega (arith, g, length-drop 16 s)) in
    (λ i. take-append-le 16 s r long i ∷ cut n (drop-append-le 16 s r long i)) ∙ ap (λ (q : List (List ℕ)). take 16 s ∷ q) rest

-- a part of whole records, or the last one
pub in_parts : (l r : List ℕ) → (length l % 16 ≡ 0) ⊎ (r ≡ []) → records_of (l ++ r) ≡ records_of l ++ records_of r
unfolding records_of cut
in_parts l r (inl e) =
    let whole-records : length l ≡ 16 * (length l / 16) = omega (arith, e) in
    cut_parts (length (l ++ r)) (length l) l r (length l / 16) whole-records (omega arith) (omega arith)
in_parts l r (inr e) =
    ap (λ (q : List ℕ). records_of (l ++ q)) e
    ∙ ap records_of (append-nil l)
    ∙ sym (append-nil (records_of l))
    ∙ ap (λ (q : List ℕ). records_of l ++ records_of q) (sym e)

-- one record of at most sixteen bytes
one_record : (b : List ℕ) → 1 ≤ length b → length b ≤ 16 → b ∷ [] ≡ records_of b
unfolding records_of cut
one_record [] h k = absurd (omega (arith, h))
one_record (x ∷ l) h k =
    let none : cut (length l) (drop 16 (x ∷ l)) ≡ [] =
    ap (cut (length l)) (drop_of_length-le (x ∷ l) k) ∙ cut-enough (length l) 0 [] (omega arith) (omega arith) in
    λ i. sym (take_all 16 (x ∷ l) k) i ∷ sym none i

-- the records that a call was sent, each with the call's list
pub call_records : (c : CallIn) → AppliedAll c → sent (exchanged c) ≡ all_under (in_force (given_in c)) (records_of (bytes_in c))
call_records (ForRecord given b y m) (h, k) = ap (all_under (in_force given)) (one_record b h k)
call_records (ForRecords given bytes kinds numbers n kinds' numbers' m) e =
    sym (map-map (λ (x : Exchange). under (in_force x.given) x.bytes) (exchange_at given bytes kinds' numbers') (up_from 0 n))
    ∙ map-map (under (in_force given)) (record_at bytes) (up_from 0 n)
    ∙ ap (λ (k : ℕ). all_under (in_force given) (map (record_at bytes) (up_from 0 k))) e
    ∙ ap (all_under (in_force given)) (whole bytes)
call_records (ForTable bytes y m) e = absurd e

pub parts-records : (given : Given) (cs : List CallIn) (file : List ℕ) → InParts given cs file
    → sent (exchanges cs) ≡ all_under (in_force given) (records_of file)
unfolding InParts exchanges records_of cut
parts-records given [] file F = ap (λ (l : List ℕ). all_under (in_force given) (records_of l)) (sym F)
parts-records given (c ∷ cs) file (A, same, rest, e, last, F) =
    map-append (λ (x : Exchange). under (in_force x.given) x.bytes) (exchanged c) (exchanges cs)
    ∙ (λ i. (call_records c A ∙ ap (λ (g : Given). all_under (in_force g) (records_of (bytes_in c))) same) i ++ parts-records given cs rest F i)
    ∙ sym (map-append (under (in_force given)) (records_of (bytes_in c)) (records_of rest))
    ∙ ap (all_under (in_force given)) (sym (in_parts (bytes_in c) rest last) ∙ ap records_of (sym e))
