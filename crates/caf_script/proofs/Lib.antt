pub mod ScriptLemmas
pub mod ReplyLemmas
