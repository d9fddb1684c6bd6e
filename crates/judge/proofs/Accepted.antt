-- A change that is judged Ok passed every test.
-- Assumes nothing.
use Rattle.std.specs.Prelude.{◌≡◌, refl, ℕ, suc, ◌+◌, ◌%◌, ◌<◌, eqb, ltb, leb, length, Some, None, Option, Ok}
use Rattle.std.proofs.Common.{sym, ap, ◌∙◌, arith}
use borrow.Author.Tests.{eqb-true, eqb-false, ltb-true, ltb-false, leb-true, leb-false}
use Rattle.paper.proofs.Bools.{by_bool}
use Rattle.hash.specs.Hash.{find_hash, first_unknown}
use Rattle.tables.specs.Tables.{Tables, changes, edges, actors, change_room_of, edge_room_of}
use Rattle.tables.specs.Valid.{count_of}
use Rattle.judge.specs.Judged.{Judged}
use Rattle.paper.specs.Adding.{Change}
use Rattle.judge.specs.Judge.{deps_given, tables_judged, judged_number}
use Rattle.judge.specs.JudgeLaws.{Accepted, bad_hash, bad_deps, known, unknown, no_actor, wrong_sequence, max_high, ops_high, too_many, no_node, no_edge}

-- two answers that differ
clash : {P : Type 0} {a b c : Judged} → a ≡ b → a ≡ c → judged_number b < judged_number c → P
clash {b = b} {c = c} p q l = let e : judged_number b ≡ judged_number c = ap judged_number (sym p ∙ q) in absurd (omega arith)

-- a change that is judged Ok passed every test
pub accepted : (t : Tables) (x : Change) → tables_judged t x ≡ Ok tt → Accepted t x
accepted t x q =
    by_bool (eqb (length x.hash) 32)
    (λ h'.
    let h = eqb-true (length x.hash) 32 h' in
    by_bool (eqb (length x.deps % 32) 0)
    (λ d'. let d = eqb-true (length x.deps % 32) 0 d' in found h d (find_hash t.hashes (changes t) x.hash) refl)
    (λ n. clash q (bad_deps t x h (eqb-false (length x.deps % 32) 0 n)) (omega arith)))
    (λ n. clash q (bad_hash t x (eqb-false (length x.hash) 32 n)) (omega arith))
  where
    rest : length x.hash ≡ 32 → length x.deps % 32 ≡ 0 → find_hash t.hashes (changes t) x.hash ≡ None → first_unknown t.hashes (changes t) x.deps ≡ None → Accepted t x
    rest h d f m =
        by_bool (leb (actors t) x.actor) (λ e. clash q (no_actor t x h d f m (leb-true (actors t) x.actor e)) (omega arith))
        (λ a'.
        let a = leb-false (actors t) x.actor a' in
        by_bool (eqb x.seq (suc (count_of t.nodes x.actor (changes t))))
        (λ s'.
        let s = eqb-true x.seq (suc (count_of t.nodes x.actor (changes t))) s' in
        by_bool (ltb 4294967295 x.max_op) (λ e. clash q (max_high t x h d f m a s (ltb-true 4294967295 x.max_op e)) (omega arith))
        (λ u'.
        let u = ltb-false 4294967295 x.max_op u' in
        by_bool (ltb x.max_op x.ops) (λ e. clash q (ops_high t x h d f m a s u (ltb-true x.max_op x.ops e)) (omega arith))
        (λ o'.
        let o = ltb-false x.max_op x.ops o' in
        by_bool (ltb 32 (deps_given x)) (λ e. clash q (too_many t x h d f m a s u o (ltb-true 32 (deps_given x) e)) (omega arith))
        (λ w'.
        let w = ltb-false 32 (deps_given x) w' in
        by_bool (leb (change_room_of t) (changes t)) (λ e. clash q (no_node t x h d f m a s u o w (leb-true (change_room_of t) (changes t) e)) (omega arith))
        (λ r'.
        let r = leb-false (change_room_of t) (changes t) r' in
        by_bool (ltb (edge_room_of t) (edges t + deps_given x)) (λ e. clash q (no_edge t x h d f m a s u o w r (ltb-true (edge_room_of t) (edges t + deps_given x) e)) (omega arith))
        (λ b'.
        record {
          hash_long = h;
          deps_whole = d;
          fresh = f;
          all_known = m;
          actor_low = a;
          next = s;
          max_low = u;
          ops_low = o;
          few = w;
          node_room = r;
          edge_room = ltb-false (edge_room_of t) (edges t + deps_given x) b';
        }))))))
        (λ n. clash q (wrong_sequence t x h d f m a (eqb-false x.seq (suc (count_of t.nodes x.actor (changes t))) n)) (omega arith)))

    missing : length x.hash ≡ 32 → length x.deps % 32 ≡ 0 → find_hash t.hashes (changes t) x.hash ≡ None → (o : Option ℕ) → first_unknown t.hashes (changes t) x.deps ≡ o → Accepted t x
    missing h d f (Some i) e = clash q (unknown t x h d f i e) (omega arith)
    missing h d f None e = rest h d f e

    found : length x.hash ≡ 32 → length x.deps % 32 ≡ 0 → (o : Option ℕ) → find_hash t.hashes (changes t) x.hash ≡ o → Accepted t x
    found h d (Some k) e = clash q (known t x h d k e) (omega arith)
    found h d None e = missing h d e (first_unknown t.hashes (changes t) x.deps) refl
