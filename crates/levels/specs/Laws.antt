-- Public and secret keep the laws, and pairs keep those that both halves keep.
use Rattle.std.specs.Prelude.{◌≡◌, true, refl}
use Rattle.std.proofs.Common.{sym, ap}
use Rattle.std.proofs.lemmas.Bool.{and_parts, and_from, true≢false}
use Rattle.rules.specs.Order.{Order, Lawful}
use Rattle.levels.specs.Secrecy.{secrecy_join, secrecy_flows, secrecy_order}
use Rattle.levels.specs.declared.secrecy.Secrecy.{Secrecy}
use Rattle.levels.specs.declared.secrecy.Secrecy.TheVariants.{Public, Secret}
use Rattle.levels.specs.Pairs.{pair_order}
use Rattle.levels.specs.declared.pair.Pair.{Pair}

associative : (a b c : Secrecy) → secrecy_join (secrecy_join a b) c ≡ secrecy_join a (secrecy_join b c)
associative Public b c = refl
associative Secret b c = refl

commutative : (a b : Secrecy) → secrecy_join a b ≡ secrecy_join b a
commutative Public Public = refl
commutative Public Secret = refl
commutative Secret Public = refl
commutative Secret Secret = refl

idempotent : (a : Secrecy) → secrecy_join a a ≡ a
idempotent Public = refl
idempotent Secret = refl

join_of_flow : (a b : Secrecy) → secrecy_flows a b ≡ true → secrecy_join a b ≡ b
join_of_flow Public b h = refl
join_of_flow Secret Public h = absurd (true≢false (sym h))
join_of_flow Secret Secret h = refl

flow_of_join : (a b : Secrecy) → secrecy_join a b ≡ b → secrecy_flows a b ≡ true
flow_of_join Public b h = refl
flow_of_join Secret Public h = ap (λ a. secrecy_flows a Public) h
flow_of_join Secret Secret h = refl

pub secrecy_lawful : Lawful secrecy_order
secrecy_lawful = record {
  associative = associative;
  commutative = commutative;
  idempotent = idempotent;
  with_least = λ a. refl;
  join_of_flow = join_of_flow;
  flow_of_join = flow_of_join;
}

-- pairs are equal by their halves
pub both : {A B : Type 0} {x x' : A} {y y' : B} → x ≡ x' → y ≡ y' → ◌≡◌ {A = Pair A B} (record { first = x; second = y }) (record { first = x'; second = y' })
both e f = cc

module _ {A B : Type 0} {o : Order A} {p : Order B} (lo : Lawful o) (lp : Lawful p) where
  pub pair_lawful : Lawful (pair_order o p)
  pair_lawful = record {
    associative = λ a b c. both (lo.associative a.first b.first c.first) (lp.associative a.second b.second c.second);
    commutative = λ a b. both (lo.commutative a.first b.first) (lp.commutative a.second b.second);
    idempotent = λ a. both (lo.idempotent a.first) (lp.idempotent a.second);
    with_least = λ a. both (lo.with_least a.first) (lp.with_least a.second);
    join_of_flow = λ a b h.
        let parts = and_parts _ _ h in
        both (lo.join_of_flow a.first b.first parts.0) (lp.join_of_flow a.second b.second parts.1);
    flow_of_join = λ a b h.
        and_from _ _ (lo.flow_of_join a.first b.first (ap (λ (x : Pair A B). x.first) h))
        (lp.flow_of_join a.second b.second (ap (λ (x : Pair A B). x.second) h));
  }
