pub mod RestLemmas
pub mod FreshLemmas
pub mod RoleLemmas
