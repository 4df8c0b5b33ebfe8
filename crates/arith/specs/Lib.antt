-- What an operation's result says in the words of the model.
pub mod Answer
