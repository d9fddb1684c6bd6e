-- What loading comes to: one law for each answer.
-- Assumes nothing.
use Rattle.std.specs.Prelude.{◌≡◌, true, false, ℕ, ◌%◌, ◌≤◌, ◌<◌, length}
use borrow.Author.Tests.{eq-eqb, ne_eqb, lt-ltb, le-ltb}
use Rattle.paper.specs.Numbers.{done, malformed, no_actor_room, columns_disagree, no_node_room, no_edge_room}
use Rattle.paper.specs.Loading.{Columns, listed_changes, deps_before, agree, judged_load}

module _ (n e a : ℕ) (c : Columns) where
  pub bad_hashes : (length c.hashes % 32 ≡ 0 → ⊥) → malformed ≡ judged_load n e a c
  unfolding judged_load
  bad_hashes h = rw (ne_eqb (length c.hashes % 32) 0 h)

  module _ (w : length c.hashes % 32 ≡ 0) where
    pub bad_heads : (length c.heads % 32 ≡ 0 → ⊥) → malformed ≡ judged_load n e a c
    unfolding judged_load
    bad_heads h = rw (eq-eqb (length c.hashes % 32) 0 w, ne_eqb (length c.heads % 32) 0 h)

    module _ (v : length c.heads % 32 ≡ 0) where
      pub no_actors : a < c.actor_count → no_actor_room ≡ judged_load n e a c
      unfolding judged_load
      no_actors l = rw (eq-eqb (length c.hashes % 32) 0 w, eq-eqb (length c.heads % 32) 0 v, lt-ltb a c.actor_count l)

      module _ (r : c.actor_count ≤ a) where
        pub disagreed : agree c ≡ false → columns_disagree ≡ judged_load n e a c
        unfolding judged_load
        disagreed f = rw (eq-eqb (length c.hashes % 32) 0 w, eq-eqb (length c.heads % 32) 0 v, le-ltb a c.actor_count r, f)

        module _ (t : agree c ≡ true) where
          pub no_nodes : n < listed_changes c → no_node_room ≡ judged_load n e a c
          unfolding judged_load
          no_nodes l = rw (eq-eqb (length c.hashes % 32) 0 w, eq-eqb (length c.heads % 32) 0 v, le-ltb a c.actor_count r, t, lt-ltb n (listed_changes c) l)

          module _ (m : listed_changes c ≤ n) where
            pub no_edges : e < deps_before c (listed_changes c) → no_edge_room ≡ judged_load n e a c
            unfolding judged_load
            no_edges l =
                rw (eq-eqb (length c.hashes % 32) 0 w, eq-eqb (length c.heads % 32) 0 v, le-ltb a c.actor_count r, t, le-ltb n (listed_changes c) m, lt-ltb e (deps_before c (listed_changes c)) l)

            pub all_done : deps_before c (listed_changes c) ≤ e → done ≡ judged_load n e a c
            unfolding judged_load
            all_done l =
                rw (eq-eqb (length c.hashes % 32) 0 w, eq-eqb (length c.heads % 32) 0 v, le-ltb a c.actor_count r, t, le-ltb n (listed_changes c) m, le-ltb e (deps_before c (listed_changes c)) l)
